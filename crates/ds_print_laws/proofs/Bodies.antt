-- The bodies of functions are read back.
use Rattle.std.proofs.Common.{◌≡◌, ℕ, true, false, not, cond, List, [], ◌∷◌, ◌++◌, refl, ap, sym, subst, append_assoc}
use Rattle.std.proofs.Common.{append-nil}
use Rattle.std.specs.Prelude.{All, Option, Some, None, is_some, IfSome, option_map, flat_map}
use Rattle.std.specs.Option.{option_to_list}
use Rattle.ds_lex.specs.Written.{Piece}
use Rattle.ds_ast.specs.declared.name.Name.{Name}
use Rattle.ds_ast.specs.declared.instr.Op.{Op}
use Rattle.ds_ast.specs.declared.instr.Instr.{Instr}
use Rattle.ds_ast.specs.declared.module.Block.{Block}
use Rattle.ds_ast.specs.Bounds.{IsName, IsOp, IsInstr, IsEnded, IsBlock, IsCounted, numbers, names_of_block}
use Rattle.ds_ast.specs.Bounds.{has_result, is_terminator}
use Rattle.ds_grammar.specs.declared.item.Begin.TheVariants as begin
use Rattle.ds_grammar.specs.Sort.{Body, a_begin, a_number, a_body, both_of}
use Rattle.ds_grammar.specs.Grammar.{Grammar, Done, Loop}
use Rattle.ds_grammar.specs.Functions.{line_begin, line_rest, with_instruction, unnamed, unnamed_counter, numbered}
use Rattle.ds_grammar.specs.Functions.{counted, risen, taken_mark}
use Rattle.ds_print.specs.Names as print
use Rattle.ds_print.specs.Canonical.{op_pieces, instr_pieces, block_pieces}
use Rattle.ds_print_laws.proofs.Gets.{Known, Gets, gap, done, one, marked, run_end, run_item, read_from, ◌⨾◌}
use Rattle.ds_print_laws.proofs.Alls.{all_first, all_rest}
use Rattle.ds_print_laws.proofs.Names.{name_is, label_is}
use Rattle.ds_print_laws.proofs.Values.{done_as}
use Rattle.ds_print_laws.proofs.Types.{regroup}
use Rattle.ds_print_laws.proofs.Lists.{read_as, behind_these}
use Rattle.ds_print_laws.proofs.Ends.{EndsInstruction, ends_gap}
use Rattle.ds_print_laws.proofs.Heads.{op_ends, local_ends, label_ends, close_ends}
use Rattle.ds_print_laws.proofs.Ops.{named_row, other_row}
use Rattle.ds_print_laws.proofs.Counters.{name_within, counted_on}

abbrev body : List Block → Option Block → ℕ → Body
body blocks open_block counter = record { blocks = blocks; open_block = open_block; counter = counter }

-- the lines of a body, behind those that made this of it
abbrev lines : Body → Grammar a_body
lines b =
    Loop (both_of a_begin a_number) (λ b t. line_begin (not (is_some b.open_block)) t.kind t.bytes t.at) line_rest b

abbrev instruction : Option Name → Op → Instr
instruction r o = record { result = r; op = o }

-- an instruction ends before the next
pub instr_ends : (i : Instr) (ps : List Piece) → EndsInstruction (instr_pieces i ++ ps)
instr_ends i ps = by_result i.result i.op ps
  where
    by_result : (r : Option Name) (o : Op) (ps : List Piece) → EndsInstruction (instr_pieces (instruction r o) ++ ps)
    by_result None o ps =
        ends_gap (32 ∷ 32 ∷ []) _ (subst EndsInstruction (sym (append_assoc (op_pieces o) (print.line_end ∷ []) ps))
        (op_ends o (print.line_end ∷ ps)))
    by_result (Some name) o ps = ends_gap (32 ∷ 32 ∷ []) _ (local_ends name _)

-- what reading an instruction makes of the counter, so that names behind it are counted on, and of the body
abbrev Advances : Body → (ℕ → Body) → List Name → List Piece → List Piece → Type 0
Advances before behind names ps rest =
    (c : ℕ) × IsCounted c (numbers names) × ((w : Body) (qs : List Piece) → Gets (lines (behind c)) rest w qs
    → Gets (lines before) ps w qs)

module _ (known : Known) (blocks : List Block) (b : Block) where
  -- a value of no result takes no number
  no_number : (c : ℕ) (o : Op) → has_result o ≡ false
      → with_instruction (body blocks (Some b) c) (unnamed_counter c o) (unnamed c o)
      ≡ with_instruction (body blocks (Some b) c) c (instruction None o)
  no_number c o e = ap (λ r. with_instruction (body blocks (Some b) c) (cond r (risen c) c)
      (instruction (cond r (Some (numbered c)) None) o)) e

  named_read : (c : ℕ) (name : Name) (o : Op) (names : List Name) (ps : List Piece) → IsOp o → has_result o ≡ true
      → IsName name → IsCounted c (numbers (name ∷ names)) → EndsInstruction ps
      → Advances (body blocks (Some b) c) (λ k. with_instruction (body blocks (Some b) c) k
      (instruction (Some name) o)) names (instr_pieces (instruction (Some name) o) ++ ps) ps
  named_read c name o names ps io r iname ic ends =
      let row = named_row known o (print.line_end ∷ ps) io r (ends_gap (10 ∷ []) ps ends) in (
        counted name c,
        counted_on name names c iname ic,
        λ w qs k.
            gap (run_item known (λ at. (begin.Named name, at))
            (λ at. ap (option_map (λ n. (begin.Named n, at))) (name_is known name iname))
            (λ at. marked (name_within name names c at ic)
            (gap (one {v = tt} (λ at. refl) ⨾ gap (regroup (op_pieces o) (print.line_end ∷ []) ps
            (read_from _ _ row.whole (one (λ at. row.begins) ⨾ (row.read [] ⨾ done _ (print.line_end ∷ ps))))))))
            (gap k)),
      )

  other_read : (c : ℕ) (o : Op) (names : List Name) (ps : List Piece) → IsOp o → has_result o ≡ false
      → IsCounted c (numbers names) → EndsInstruction ps
      → Advances (body blocks (Some b) c) (λ k. with_instruction (body blocks (Some b) c) k (instruction None o))
      names (instr_pieces (instruction None o) ++ ps) ps
  other_read c o names ps io r ic ends =
      let row = other_row known o (print.line_end ∷ ps) io r (ends_gap (10 ∷ []) ps ends) in (
        c,
        ic,
        λ w qs k.
            gap (regroup (op_pieces o) (print.line_end ∷ []) ps (read_from _ _ row.whole
            (run_item known (λ at. (begin.Head row.head, at))
            (λ at. ap (option_map (λ h. (begin.Head h, at))) row.begins)
            (λ at. ◌⨾◌ {next = λ o. Done {a = a_body} (with_instruction (body blocks (Some b) c) (unnamed_counter c o)
            (unnamed c o))} (row.read (taken_mark at c ∷ [])) (done_as _ _ (print.line_end ∷ ps) (no_number c o r)))
            (gap k)))),
      )

  by_result : (r : Option Name) (o : Op) (c : ℕ) (names : List Name) (ps : List Piece) → IsOp o
      → is_some r ≡ has_result o → IfSome r IsName → IsCounted c (numbers (option_to_list r ++ names))
      → EndsInstruction ps
      → Advances (body blocks (Some b) c) (λ k. with_instruction (body blocks (Some b) c) k (instruction r o)) names
      (instr_pieces (instruction r o) ++ ps) ps
  by_result None o c names ps io has iname ic ends = other_read c o names ps io (sym has) ic ends
  by_result (Some name) o c names ps io has iname ic ends = named_read c name o names ps io (sym has) iname ic ends

  -- an instruction in an open block
  instr_read : (i : Instr) (c : ℕ) (names : List Name) (ps : List Piece) → IsInstr i
      → IsCounted c (numbers (option_to_list i.result ++ names)) → EndsInstruction ps
      → Advances (body blocks (Some b) c) (λ k. with_instruction (body blocks (Some b) c) k i) names
      (instr_pieces i ++ ps) ps
  instr_read i c names ps h ic ends = by_result i.result i.op c names ps h.given h.has_name h.name ic ends

-- the names of the results
abbrev results : List Instr → List Name
results code = flat_map (λ i. option_to_list i.result) code

abbrev block : Name → List Instr → Block
block name code = record { name = name; code = code }

module _ (known : Known) (blocks : List Block) (name : Name) where
  -- an instruction ends the block, or goes on in it
  ended_by : (before : List Instr) (c : ℕ) (i : Instr) → is_terminator i.op ≡ true
      → with_instruction (body blocks (Some (block name before)) c) c i
      ≡ body (blocks ++ block name (before ++ i ∷ []) ∷ []) None c
  ended_by before c i e = rw e refl

  goes_on_by : (before : List Instr) (c : ℕ) (i : Instr) → is_terminator i.op ≡ false
      → with_instruction (body blocks (Some (block name before)) c) c i
      ≡ body blocks (Some (block name (before ++ i ∷ []))) c
  goes_on_by before c i e = rw e refl

  code_ends : (code : List Instr) (ps : List Piece) → EndsInstruction ps
      → EndsInstruction (flat_map instr_pieces code ++ ps)
  code_ends [] ps ends = ends
  code_ends (i ∷ code) ps ends = subst EndsInstruction
      (sym (append_assoc (instr_pieces i) (flat_map instr_pieces code) ps))
      (instr_ends i (flat_map instr_pieces code ++ ps))

  code_read : (before code : List Instr) (c : ℕ) (names : List Name) (ps : List Piece) → All IsInstr code
      → IsEnded code → IsCounted c (numbers (results code ++ names)) → EndsInstruction ps
      → Advances (body blocks (Some (block name before)) c)
      (λ k. body (blocks ++ block name (before ++ code) ∷ []) None k) names (flat_map instr_pieces code ++ ps) ps
  code_read before [] c names ps h ended ic ends = absurd ended
  code_read before (i ∷ []) c names ps h ended ic ends =
      let x = instr_read known blocks (block name before) i c names ps (all_first IsInstr i [] h)
      (subst (λ ns. IsCounted c (numbers ns)) (append_assoc (option_to_list i.result) [] names) ic) ends in (
        x.0,
        x.1,
        λ w qs k. regroup (instr_pieces i) [] ps
            (x.2 w qs (subst (λ b. Gets (lines b) ps w qs) (sym (ended_by before x.0 i ended)) k)),
      )
  code_read before (i ∷ j ∷ code) c names ps h ended ic ends =
      let rest = flat_map instr_pieces (j ∷ code) ++ ps in
      let x = instr_read known blocks (block name before) i c (results (j ∷ code) ++ names) rest
      (all_first IsInstr i (j ∷ code) h)
      (subst (λ ns. IsCounted c (numbers ns)) (append_assoc (option_to_list i.result) (results (j ∷ code)) names) ic)
      (code_ends (j ∷ code) ps ends) in
      let y =
      code_read (before ++ i ∷ []) (j ∷ code) x.0 names ps (all_rest IsInstr i (j ∷ code) h) ended.1 x.1 ends in (
        y.0,
        y.1,
        λ w qs k. regroup (instr_pieces i) (flat_map instr_pieces (j ∷ code)) ps
            (x.2 w qs (subst (λ b. Gets (lines b) rest w qs) (sym (goes_on_by before x.0 i ended.0))
            (y.2 w qs (subst (λ xs. Gets (lines (body (blocks ++ block name xs ∷ []) None y.0)) ps w qs)
            (sym (behind_these i before (j ∷ code))) k)))),
      )

module _ (known : Known) where
  blocks_end : (bs : List Block) (ps : List Piece) → EndsInstruction (flat_map block_pieces bs ++ print.punct "}" ∷ ps)
  blocks_end [] ps = close_ends ps
  blocks_end (b ∷ bs) ps = label_ends b.name _

  -- the blocks, up to the bracket behind them
  pub blocks_read : (before bs : List Block) (c : ℕ) (ps : List Piece) → All IsBlock bs
      → IsCounted c (numbers (flat_map names_of_block bs))
      → (k : ℕ) × Gets (lines (body before None c)) (flat_map block_pieces bs ++ print.punct "}" ∷ ps)
      (body (before ++ bs) None k) (print.punct "}" ∷ ps)
  blocks_read before [] c ps h ic = (
    c,
    read_as (body before None c) (body (before ++ []) None c)
        (ap (λ xs. body xs None c) (sym (append-nil before))) (run_end known (λ at. refl)),
  )
  blocks_read before (b ∷ bs) c ps h ic =
      let is_block = all_first IsBlock b bs h in
      let rest = flat_map block_pieces bs ++ print.punct "}" ∷ ps in
      let names = flat_map names_of_block bs in
      let x = code_read known before b.name [] b.code
      (counted b.name c) names rest is_block.instructions is_block.ended
      (counted_on b.name (results b.code ++ names) c is_block.name ic) (blocks_end bs ps) in
      let y = blocks_read (before ++ b ∷ []) bs x.0 ps (all_rest IsBlock b bs h) x.1 in (
        y.0,
        run_item known (λ at. (begin.Label b.name, at))
            (λ at. ap (option_map (λ n. (begin.Label n, at))) (label_is known b.name is_block.name))
            (λ at. marked (name_within b.name (results b.code ++ names) c at ic) (done _ _))
            (gap (regroup (flat_map instr_pieces b.code) (flat_map block_pieces bs) (print.punct "}" ∷ ps)
            (x.2 _ _ (read_as _ _ (ap (λ xs. body xs None y.0) (behind_these b before bs)) y.1)))),
      )
