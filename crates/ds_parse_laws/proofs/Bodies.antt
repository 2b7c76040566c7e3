-- The bodies of functions, and functions, are within their bounds.
use Rattle.std.proofs.Common.{◌≡◌, ℕ, ◌<◌, ◌+◌, ◌^◌, Bool, true, false, cond, not, List, [], ◌∷◌, ◌++◌, length, map}
use Rattle.std.proofs.Common.{refl, sym, ap, ◌∙◌, subst, append_assoc, append-nil, arith}
use Rattle.std.specs.Prelude.{All, Option, Some, None, is_some, option_map, flat_map}
use Rattle.std.specs.Option.{option_to_list}
use Rattle.std.proofs.lemmas.Grind.{flat_map-append}
use Rattle.std.proofs.lemmas.List.Elements.{All-nil, All-push, All-take}
use Rattle.ds_lex.specs.declared.token.TokenKind.{TokenKind}
use Rattle.ds_lex.specs.declared.token.TokenKind.TheVariants as kind
use Rattle.ds_ast.specs.declared.name.Name.{Name}
use Rattle.ds_ast.specs.declared.instr.Op.{Op}
use Rattle.ds_ast.specs.declared.instr.Instr.{Instr}
use Rattle.ds_ast.specs.declared.module.Block.{Block}
use Rattle.ds_ast.specs.Bounds.{IsName, IsOp, IsInstr, IsEnded, IsBlock, IsFunction, names_of_block, has_result}
use Rattle.ds_ast.specs.Bounds.{is_terminator}
use Rattle.ds_grammar.specs.declared.item.Begin.{Begin}
use Rattle.ds_grammar.specs.declared.item.Begin.TheVariants as begin
use Rattle.ds_grammar.specs.declared.item.Head.{Head}
use Rattle.ds_grammar.specs.Sort.{Body}
use Rattle.ds_grammar.specs.Tokens.{token_name}
use Rattle.ds_grammar.specs.Instructions.{head_of}
use Rattle.ds_grammar.specs.Functions.{line_begin, label_name, line_rest, with_instruction, opened, opened_counter}
use Rattle.ds_grammar.specs.Functions.{opened_marks, longer, unnamed, unnamed_counter, numbered, counted, risen}
use Rattle.ds_grammar.specs.Functions.{taken_mark, body_from, ended, define_line, declare_line}
use Rattle.ds_parse_laws.proofs.Within.{Within, EachWithin, done, one, never, skip, marked, all_marked, run, ◌⨾◌}
use Rattle.ds_parse_laws.proofs.Leaves.{mapped, name_is, token_name_is, global_within}
use Rattle.ds_parse_laws.proofs.Types.{any_type_within}
use Rattle.ds_parse_laws.proofs.Rows.{HasResult, named_head, named_within, unnamed_within}
use Rattle.ds_parse_laws.proofs.Counters.{Rises, are_counted, rise_on, written_rises, taken_rises, numbered_name}
use Rattle.ds_parse_laws.proofs.Parameters.{name_of, parameters_within, declared_parameters_within, declared_names}
use Rattle.ds_parse_laws.proofs.Parameters.{declared_rise}

-- no instruction ends a block
abbrev GoOn : List Instr → Type 0
GoOn [] = Unit {0}
GoOn (i ∷ code) = (is_terminator i.op ≡ false) × GoOn code

goes_on : (code : List Instr) (i : Instr) → GoOn code → is_terminator i.op ≡ false → GoOn (code ++ i ∷ [])
goes_on [] i h e = (e, tt)
goes_on (j ∷ code) i h e = (h.0, goes_on code i h.1 e)

is_ended : (code : List Instr) (i : Instr) → GoOn code → is_terminator i.op ≡ true → IsEnded (code ++ i ∷ [])
is_ended [] i h e = e
is_ended (j ∷ []) i h e = (h.0, e)
is_ended (j ∷ k ∷ code) i h e = (h.0, is_ended (k ∷ code) i h.1 e)

-- a block that has not ended
record IsOpen (b : Block) : Type 0 where
  pub name : IsName b.name
  pub instructions : All IsInstr b.code
  pub on : GoOn b.code

abbrev IsOpened : Option Block → Type 0
IsOpened None = Unit {0}
IsOpened (Some b) = IsOpen b

-- what the block that is open names
abbrev open_names : Option Block → List Name
open_names None = []
open_names (Some b) = names_of_block b

-- what blocks name
abbrev names : List Block → List Name
names bs = flat_map names_of_block bs

names_more : (bs : List Block) (b : Block) → names (bs ++ b ∷ []) ≡ names bs ++ names_of_block b
names_more bs b =
    flat_map-append names_of_block bs (b ∷ []) ∙ ap (λ ns. names bs ++ ns) (append-nil (names_of_block b))

names_longer : (b : Block) (i : Instr) → names_of_block (longer b i) ≡ names_of_block b ++ option_to_list i.result
names_longer b i =
    let f : Instr → List Name = λ i. option_to_list i.result in
    ap (λ ns. b.name ∷ ns) (flat_map-append f b.code (i ∷ [])
    ∙ ap (λ ns. flat_map f b.code ++ ns) (append-nil (option_to_list i.result)))

module _ (c : ℕ) where
  -- a body so far, whose names are counted from c on
  record Going (b : Body) : Type 0 where
    pub blocks : All IsBlock b.blocks
    pub open_block : IsOpened b.open_block
    pub rise : Rises c (names b.blocks ++ open_names b.open_block) b.counter

  -- a block that is open, or a new one
  record Begun (bs : List Block) (b : Block) (d : ℕ) : Type 0 where
    pub open_block : IsOpen b
    pub rise : Rises c (names bs ++ names_of_block b) d

  begun : (bs : List Block) (o : Option Block) (d at : ℕ) → IsOpened o → Rises c (names bs ++ open_names o) d
      → EachWithin (opened_marks o at d) → Begun bs (opened o d) (opened_counter o d)
  begun bs (Some b) d at i r w = record { open_block = i; rise = r }
  begun bs None d at i r w = record {
    open_block = record { name = numbered_name d; instructions = All-nil IsInstr; on = tt };
    rise = rise_on c (names bs) (numbered d ∷ []) d (risen d) (subst (λ ns. Rises c ns d) (append-nil (names bs)) r)
        (taken_rises d at w.0);
  }

  -- one instruction more
  one_more : (bs : List Block) (o : Option Block) (d e f : ℕ) (i : Instr) → All IsBlock bs → Begun bs (opened o d) e
      → IsInstr i → Rises e (option_to_list i.result) f
      → Going (with_instruction (record { blocks = bs; open_block = o; counter = d }) f i)
  one_more bs o d e f i h b is r = by (is_terminator i.op) refl
    where
      whole : Rises c (names bs ++ names_of_block (longer (opened o d) i)) f
      whole =
          subst (λ ns. Rises c (names bs ++ ns) f) (sym (names_longer (opened o d) i))
          (subst (λ ns. Rises c ns f) (append_assoc (names bs) (names_of_block (opened o d)) (option_to_list i.result))
          (rise_on c (names bs ++ names_of_block (opened o d)) (option_to_list i.result) e f b.rise r))

      code : All IsInstr ((opened o d).code ++ i ∷ [])
      code = All-push IsInstr (opened o d).code i b.open_block.instructions is

      by : (t : Bool) → is_terminator i.op ≡ t
          → Going (cond t (record { blocks = bs ++ longer (opened o d) i ∷ []; open_block = None; counter = f })
          (record { blocks = bs; open_block = Some (longer (opened o d) i); counter = f }))
      by true t = record {
        blocks = All-push IsBlock bs (longer (opened o d) i) h
            (record {
              name = b.open_block.name;
              instructions = code;
              ended = is_ended
                  (opened o d).code i b.open_block.on t;
            });
        open_block = tt;
        rise = subst (λ ns. Rises c ns f) (sym (append-nil (names (bs ++ longer (opened o d) i ∷ []))))
            (subst (λ ns. Rises c ns f) (sym (names_more bs (longer (opened o d) i))) whole);
      }
      by false t = record {
        blocks = h;
        open_block =
            record {
              name = b.open_block.name;
              instructions = code;
              on = goes_on (opened o d).code i b.open_block.on t;
            };
        rise = whole;
      }

  -- what a line begins with
  abbrev IsBegin : Bool → Begin × ℕ → Type 0
  IsBegin may (begin.Label n, at) = (may ≡ true) × IsName n
  IsBegin may (begin.Named n, at) = IsName n
  IsBegin may (begin.Head h, at) = Unit {0}

  label_is : (may : Bool) (bs : List ℕ) (at : ℕ) (v : Begin × ℕ) → All (λ b. b < 2 ^ 8) bs
      → line_begin may kind.Label bs at ≡ Some v → IsBegin may v
  label_is true bs at v h e =
      let (n, i, same) = mapped (λ n. (begin.Label n, at)) (label_name bs) v e in
      subst (IsBegin true) (sym same) (refl, name_is _ n (All-take (λ b. b < 2 ^ 8) _ bs h) i)
  label_is false bs at v h e = absurd (cc (e))

  head_is : (may : Bool) (o : Option Head) (at : ℕ) (v : Begin × ℕ) → option_map (λ h. (begin.Head h, at)) o ≡ Some v
      → IsBegin may v
  head_is may o at v e = let (h, i, same) = mapped (λ h. (begin.Head h, at)) o v e in subst (IsBegin may) (sym same) tt

  begin_is : (may : Bool) (k : TokenKind) (bs : List ℕ) (at : ℕ) (v : Begin × ℕ) → All (λ b. b < 2 ^ 8) bs
      → line_begin may k bs at ≡ Some v → IsBegin may v
  begin_is may kind.Label bs at v h e = label_is may bs at v h e
  begin_is may kind.Local bs at v h e =
      let (n, i, same) = mapped (λ n. (begin.Named n, at)) (token_name bs) v e in
      subst (IsBegin may) (sym same) (token_name_is bs n h i)
  begin_is may other bs at v h e = head_is may (head_of false other bs) at v e

  -- an instruction whose result takes a number
  unnamed_is : (d at : ℕ) (o : Op) → IsOp o → (has_result o ≡ true → EachWithin (taken_mark at d ∷ []))
      → IsInstr (unnamed d o) × Rises d (option_to_list (unnamed d o).result) (unnamed_counter d o)
  unnamed_is d at o i w = by (has_result o) refl
    where
      by : (r : Bool) → has_result o ≡ r
          → IsInstr (record { result = cond r (Some (numbered d)) None; op = o })
          × Rises d (option_to_list (cond r (Some (numbered d)) None)) (cond r (risen d) d)
      by true e = (record { given = i; has_name = sym e; name = numbered_name d }, taken_rises d at (w e).0)
      by false e = (record { given = i; has_name = sym e; name = tt }, refl)

  line_within : (bs : List Block) (o : Option Block) (d : ℕ) (v : Begin × ℕ)
      → Going (record { blocks = bs; open_block = o; counter = d }) → IsBegin (not (is_some o)) v
      → Within (line_rest (record { blocks = bs; open_block = o; counter = d }) v) Going
  line_within bs (Some b) d (begin.Label n, at) h i = absurd (cc (i.0))
  line_within bs None d (begin.Label n, at) h i =
      marked (λ w. done (record {
        blocks = bs;
        open_block = Some
            (record { name = n; code = [] });
        counter = counted n d;
      }) (record {
        blocks = h.blocks;
        open_block = record { name = i.1; instructions = All-nil IsInstr; on = tt };
        rise = rise_on c (names bs) (n ∷ []) d (counted n d)
            (subst (λ ns. Rises c ns d) (append-nil (names bs)) h.rise) (written_rises n d at i.1 w);
      }))
  line_within bs o d (begin.Named n, at) h i =
      all_marked (opened_marks o at d) (λ ws. marked
      (λ w. skip (λ u. ◌⨾◌ {Q = HasResult} (one (λ t g b e. named_head t.kind t.bytes g e))
      (λ g e. named_within g e ⨾ (λ p j. done (with_instruction (record { blocks = bs; open_block = o; counter = d })
      (counted n (opened_counter o d)) (record { result = Some n; op = p }))
      (one_more bs o d (opened_counter o d) (counted n (opened_counter o d))
      (record { result = Some n; op = p }) h.blocks (begun bs o d at h.open_block h.rise ws)
      (record { given = j.0; has_name = sym j.1; name = i }) (written_rises n (opened_counter o d) at i w)))))))
  line_within bs o d (begin.Head g, at) h i =
      all_marked (opened_marks o at d) (λ ws. unnamed_within (taken_mark at (opened_counter o d) ∷ []) g ⨾ (λ p j.
      let k = unnamed_is (opened_counter o d) at p j.0 j.1 in
      done (with_instruction (record { blocks = bs; open_block = o; counter = d })
      (unnamed_counter (opened_counter o d) p) (unnamed (opened_counter o d) p))
      (one_more bs o d (opened_counter o d) (unnamed_counter (opened_counter o d) p)
      (unnamed (opened_counter o d) p) h.blocks (begun bs o d at h.open_block h.rise ws) k.0 k.1)))

  body_within : Within (body_from c) Going
  unfolding body_from
  body_within =
      run (record { blocks = All-nil IsBlock; open_block = tt; rise = refl })
      (λ b t v p bytes e. line_within b.blocks b.open_block b.counter v p
      (begin_is (not (is_some b.open_block)) t.kind t.bytes t.at v bytes e))

  -- the blocks of a whole body
  record AreBlocks (bs : List Block) : Type 0 where
    pub blocks : All IsBlock bs
    pub some : bs ≡ [] → ⊥
    pub last : ℕ
    pub rise : Rises c (names bs) last

  ended_within : (b : Body) → Going b → Within (ended b.open_block b.blocks) AreBlocks
  ended_within b h = by b.open_block b.blocks h.blocks h.rise
    where
      by : (o : Option Block) (bs : List Block) → All IsBlock bs → Rises c (names bs ++ open_names o) b.counter
          → Within (ended o bs) AreBlocks
      by (Some o) bs i r = never
      by None [] i r = never
      by None (x ∷ bs) i r = done (x ∷ bs) (record {
        blocks = i;
        some = λ e. cc (e);
        last = b.counter;
        rise = subst
            (λ ns. Rises c ns b.counter) (append-nil (names (x ∷ bs))) r;
      })

-- FUNCTIONS

pub define_within : Within define_line IsFunction
unfolding define_line
define_within =
    skip (λ u. any_type_within true ⨾ (λ t i. global_within ⨾
    (λ n j. skip (λ u. parameters_within ⨾ (λ ps k. skip (λ u. skip (λ u. body_within ps.counter ⨾ (λ b h.
    ended_within ps.counter b h ⨾ (λ bs l. skip (λ u. done
    (record { name = n; result = t; params = ps.params; blocks = bs }) (record {
      name = j;
      result = i;
      parameters = k.names;
      blocks = l.blocks;
      counted = are_counted 0 (map name_of ps.params ++ names bs) l.last
          (rise_on 0 (map name_of ps.params) (names bs) ps.counter l.last k.rise l.rise);
      declared = λ e. absurd (l.some e);
    })))))))))))

pub declare_within : Within declare_line IsFunction
unfolding declare_line
declare_within =
    skip (λ u. skip (λ u. any_type_within true ⨾ (λ t i. global_within ⨾
    (λ n j. skip (λ u. declared_parameters_within ⨾ (λ ps k. skip (λ u. skip (λ u.
    done (record { name = n; result = t; params = ps; blocks = [] }) (record {
      name = j;
      result = i;
      parameters = let few = k.few in declared_names 0 ps (omega (arith, few)) k.numbered;
      blocks = All-nil IsBlock;
      counted = are_counted 0 (map name_of ps ++ []) (0 + length ps)
          (subst (λ ns. Rises 0 ns (0 + length ps)) (sym (append-nil (map name_of ps)))
          (declared_rise 0 ps k.numbered));
      declared = λ e. k.numbered;
    })))))))))
