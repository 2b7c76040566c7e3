-- What instructions are given is within its bounds, row by row.
use Rattle.std.proofs.Common.{◌≡◌, ℕ, ◌≤◌, ◌%◌, ◌^◌, Bool, true, false, cond, not, nat_le, List, [], ◌∷◌, refl, sym}
use Rattle.std.proofs.Common.{ap, subst, arith}
use Rattle.std.specs.Prelude.{All, Option, Some, None, option_map, IfSome}
use Rattle.std.specs.Str.{bytes_eq}
use Rattle.std.proofs.lemmas.List.Elements.{All-head}
use Rattle.ds_lex.specs.Number.{number_of}
use Rattle.ds_lex.specs.declared.token.TokenKind.{TokenKind}
use Rattle.ds_lex.specs.declared.token.TokenKind.TheVariants as kind
use Rattle.ds_ast.specs.declared.ty.Scalar.{Scalar}
use Rattle.ds_ast.specs.declared.ty.Scalar.TheVariants.{I1, Ptr}
use Rattle.ds_ast.specs.declared.operand.Operand.{Operand}
use Rattle.ds_ast.specs.declared.words.BinOp.{BinOp}
use Rattle.ds_ast.specs.declared.words.CastOp.{CastOp}
use Rattle.ds_ast.specs.declared.instr.Op.{Op}
use Rattle.ds_ast.specs.declared.instr.Op.TheVariants as op
use Rattle.ds_ast.specs.Bounds.{IsOp, IsOperand, has_result}
use Rattle.ds_grammar.specs.declared.fault.Mark.{Mark}
use Rattle.ds_grammar.specs.declared.item.Head.{Head}
use Rattle.ds_grammar.specs.declared.item.Head.TheVariants as head
use Rattle.ds_grammar.specs.declared.item.RunItem.{RunItem}
use Rattle.ds_grammar.specs.Sort.{an_op}
use Rattle.ds_grammar.specs.Grammar.{Grammar}
use Rattle.ds_grammar.specs.Tokens.{range_mark, lookup, bin_op_words}
use Rattle.ds_grammar.specs.Rows.{run_item}
use Rattle.ds_grammar.specs.Instructions.{if_none, cast_op_words, result_words, first_operand, part_of, part_number}
use Rattle.ds_grammar.specs.Instructions.{returned_value, branch, head_word, head_of, row_of, ignored_call}
use Rattle.ds_grammar.specs.Instructions.{binary_row, cast_row, icmp_row, select_row, alloca_row, load_row, store_row}
use Rattle.ds_grammar.specs.Instructions.{gep_row, call_row, phi_row, rmw_row, cmpxchg_row, extract_row, fence_row}
use Rattle.ds_grammar.specs.Instructions.{ret_row, br_row, switch_row, unreachable_row}
use Rattle.ds_parse_laws.proofs.Within.{Within, EachWithin, done, one, skip, marked, all_marked, weaker, ◌⨾◌}
use Rattle.ds_parse_laws.proofs.Leaves.{mapped, most_true, value_within, typed_within, local_within, global_within}
use Rattle.ds_parse_laws.proofs.Leaves.{target_within}
use Rattle.ds_parse_laws.proofs.Types.{Takes, type_within, any_type_within, taking_type_within}
use Rattle.ds_parse_laws.proofs.Lists.{operand_trail_within, arm_within, arm_trail_within, arguments_within}
use Rattle.ds_parse_laws.proofs.Lists.{cases_within}

-- what it is given is in range, and it has a result or has none
abbrev pub Gives : Bool → Op → Type 0
Gives b o = IsOp o × (has_result o ≡ b)

binary_within : (o : BinOp) → Within (binary_row o) (Gives true)
unfolding binary_row
binary_within o = skip (λ u. skip (λ s. value_within s ⨾
    (λ a i. skip (λ u. value_within s ⨾ (λ b j. skip (λ u. done (op.Bin o s a b) ((i, j), refl)))))))

cast_within : (o : CastOp) → Within (cast_row o) (Gives true)
unfolding cast_row
cast_within o = skip (λ u. skip (λ s. value_within s ⨾
    (λ a i. skip (λ u. skip (λ to. skip (λ u. done (op.Cast o s a to) (i, refl)))))))

icmp_within : Within icmp_row (Gives true)
unfolding icmp_row
icmp_within = skip (λ u. skip (λ c. skip (λ s. value_within s ⨾
    (λ a i. skip (λ u. value_within s ⨾ (λ b j. skip (λ u. done (op.Icmp c s a b) ((i, j), refl))))))))

select_within : Within select_row (Gives true)
unfolding select_row
select_within =
    typed_within I1 ⨾ (λ c i. skip (λ u. skip (λ s. value_within s ⨾
    (λ a j. skip (λ u. typed_within s ⨾ (λ b k. skip (λ u. done (op.Select c s a b) ((i, j, k), refl))))))))

first_is : (os : List Operand) → All IsOperand os → IfSome (first_operand os) IsOperand
first_is [] h = tt
first_is (o ∷ os) h = All-head IsOperand o os h

alloca_within : Within alloca_row (Gives true)
unfolding alloca_row
alloca_within = any_type_within true ⨾ (λ t i. operand_trail_within true ⨾
    (λ os j. done (op.Alloca t (first_operand os)) ((i, first_is os j), refl)))

load_within : Within load_row (Gives true)
unfolding load_row
load_within = skip (λ u. skip (λ u. skip (λ s. skip
    (λ u. typed_within Ptr ⨾ (λ at i. skip (λ u. skip (λ u. done (op.Load s at) (i, refl))))))))

store_within : Within store_row (Gives false)
unfolding store_row
store_within =
    skip (λ u. skip (λ u. skip (λ s. value_within s ⨾
    (λ v i. skip (λ u. typed_within Ptr ⨾ (λ at j. skip
    (λ u. skip (λ u. done (op.Store s v at) ((i, j), refl)))))))))

gep_within : Within gep_row (Gives true)
unfolding gep_row
gep_within = skip (λ u. any_type_within true ⨾
    (λ t i. skip (λ u. typed_within Ptr ⨾ (λ b j. operand_trail_within false ⨾
    (λ os k. done (op.Gep t b os) ((i, j, k), refl))))))

-- a call has a result, where it must have one
call_within : (named : Bool) → Within (call_row named []) (λ o. IsOp o × (named ≡ true → has_result o ≡ true))
unfolding call_row
call_within named =
    skip (λ u. type_within (not named) ⨾ (λ t i. global_within ⨾
    (λ g j. skip (λ u. arguments_within ⨾ (λ os k. skip (λ u. skip (λ u. skip (λ u.
    done (op.Call t g os) ((i.0, j, k), λ e. i.1 (ap not e))))))))))

phi_within : Within phi_row (Gives true)
unfolding phi_row
phi_within =
    skip (λ s. skip (λ u. arm_within s ⨾ (λ a i. arm_trail_within s a i ⨾ (λ arms j. done (op.Phi s arms) (j, refl)))))

rmw_within : Within rmw_row (Gives true)
unfolding rmw_row
rmw_within =
    skip (λ u. skip (λ o. typed_within Ptr ⨾ (λ at i. skip
    (λ u. skip (λ s. value_within s ⨾ (λ v j. skip (λ u. skip (λ u. done (op.Rmw o at s v) ((i, j), refl)))))))))

cmpxchg_within : Within cmpxchg_row (Gives true)
unfolding cmpxchg_row
cmpxchg_within =
    skip (λ u. typed_within Ptr ⨾ (λ at i. skip (λ u. skip
    (λ s. value_within s ⨾ (λ v j. skip (λ u. typed_within s ⨾ (λ w k.
    skip (λ u. skip (λ u. skip (λ u. done (op.Cmpxchg at s v w) ((i, j, k), refl)))))))))))

abbrev IsPart : ℕ × Mark → Type 0
IsPart found = found.1.within ≡ true → found.0 ≤ 1

part_is : (k : TokenKind) (bs : List ℕ) (at : ℕ) (v : ℕ × Mark) → part_of k bs at ≡ Some v → IsPart v
part_is kind.Number bs at v e =
    let (n, i, same) = mapped (λ n. (n % 2 ^ 32, range_mark at (nat_le n 1))) (number_of bs) v e in
    subst IsPart (sym same) (λ w. kept n (most_true n 1 w))
  where
    kept : (n : ℕ) → n ≤ 1 → n % 2 ^ 32 ≤ 1
    kept n le = omega (arith, le)
part_is other bs at v e = absurd (cc (e))

part_within : Within part_number (λ n. n ≤ 1)
unfolding part_number
part_within =
    ◌⨾◌ {Q = IsPart} (one (λ t v b e. part_is t.kind t.bytes t.at v e)) (λ found i. marked (λ w. done found.0 (i w)))

extract_within : Within extract_row (Gives true)
unfolding extract_row
extract_within =
    skip (λ u. skip (λ s. skip (λ u. skip (λ u. skip
    (λ u. local_within ⨾ (λ l i. skip (λ u. part_within ⨾
    (λ n j. skip (λ u. done (op.Extract s l n) ((i, j), refl))))))))))

fence_within : Within fence_row (Gives false)
unfolding fence_row
fence_within = skip (λ u. skip (λ u. done op.Fence (tt, refl)))

returned_within : (s : Option Scalar) → Within (returned_value s) (λ v. IfSome v IsOperand)
returned_within None = done None tt
returned_within (Some s) = value_within s ⨾ (λ v i. done (Some (record { ty = s; value = v })) i)

ret_within : Within ret_row (Gives false)
unfolding ret_row
ret_within = skip (λ s. returned_within s ⨾ (λ v i. skip (λ u. done (op.Ret v) (i, refl))))

branch_within : (b : Bool) → Within (branch b) (Gives false)
branch_within false = local_within ⨾ (λ l i. skip (λ u. done (op.Br l) (i, refl)))
branch_within true = value_within I1 ⨾ (λ c i. skip
    (λ u. target_within ⨾ (λ l j. skip (λ u. target_within ⨾
    (λ m k. skip (λ u. done (op.CondBr c l m) ((i, j, k), refl)))))))

br_within : Within br_row (Gives false)
unfolding br_row
br_within = skip branch_within

switch_within : Within switch_row (Gives false)
unfolding switch_row
switch_within =
    skip (λ s. value_within s ⨾ (λ v i. skip (λ u. target_within ⨾
    (λ l j. skip (λ u. cases_within s ⨾ (λ cs k. skip
    (λ u. skip (λ u. done (op.Switch s v l cs) ((i, j, k), refl)))))))))

unreachable_within : Within unreachable_row (Gives false)
unfolding unreachable_row
unreachable_within = skip (λ u. done op.Unreachable (tt, refl))

-- INSTRUCTIONS WHOSE RESULT IS NAMED

-- what may stand behind the name of a result
abbrev pub HasResult : Head → Type 0
HasResult head.Store = ⊥
HasResult head.Fence = ⊥
HasResult head.Ret = ⊥
HasResult head.Br = ⊥
HasResult head.Switch = ⊥
HasResult head.Unreachable = ⊥
HasResult other = Unit {0}

abbrev pub EachRow : {A : Type 0} → (A → Type 0) → List (List ℕ × A) → Type 0
EachRow P [] = Unit {0}
EachRow P (row ∷ rows) = P row.1 × EachRow P rows

pub in_table : {A : Type 0} (P : A → Type 0) (table : List (List ℕ × A)) (bs : List ℕ) (a : A) → EachRow P table
    → lookup table bs ≡ Some a → P a
in_table P [] bs a h e = absurd (cc (e))
in_table P (row ∷ rows) bs a h e = by (bytes_eq bs row.0) e (in_table P rows bs a h.1)
  where
    by : (c : Bool) → cond c (Some row.1) (lookup rows bs) ≡ Some a → (lookup rows bs ≡ Some a → P a) → P a
    by true e go = let same : row.1 ≡ a = cc (e) in subst P same h.0
    by false e go = go e

named_word : (bs : List ℕ) (h : Head) → head_word true bs ≡ Some h → HasResult h
named_word bs h e = by (lookup bin_op_words bs) (lookup cast_op_words bs) (lookup result_words bs) refl e
  where
    by : (b : Option BinOp) (c : Option CastOp) (r : Option Head) → lookup result_words bs ≡ r
        → if_none (option_map (λ o. head.Binary o) b) (if_none (option_map (λ o. head.Cast o) c) (if_none r None))
        ≡ Some h → HasResult h
    by (Some b) c r i e = let same : head.Binary b ≡ h = cc (e) in subst HasResult same tt
    by None (Some c) r i e = let same : head.Cast c ≡ h = cc (e) in subst HasResult same tt
    by None None (Some r) i e = let same : r ≡ h = cc (e) in
        subst HasResult same (in_table HasResult result_words bs r
        (tt, (tt, (tt, (tt, (tt, (tt, (tt, (tt, (tt, (tt, tt)))))))))) i)
    by None None None i e = absurd (cc (e))

ignored_head : (o : Option RunItem) (h : Head) → option_map (λ i. head.Ignored i) o ≡ Some h → HasResult h
ignored_head o h e = let (i, f, same) = mapped (λ i. head.Ignored i) o h e in subst HasResult (sym same) tt

pub named_head : (k : TokenKind) (bs : List ℕ) (h : Head) → head_of true k bs ≡ Some h → HasResult h
named_head kind.Word bs h e = by (head_word true bs) refl e
  where
    by : (o : Option Head) → head_word true bs ≡ o
        → if_none o (option_map (λ i. head.Ignored i) (run_item false kind.Word bs)) ≡ Some h → HasResult h
    by (Some g) i e = let same : g ≡ h = cc (e) in subst HasResult same (named_word bs g i)
    by None i e = ignored_head (run_item false kind.Word bs) h e
named_head other bs h e = ignored_head (run_item false other bs) h e

ignored_within : (i : RunItem) → Within (ignored_call true [] i) (Gives true)
unfolding ignored_call
ignored_within i = skip (λ a. skip (λ u. skip (λ u. weaker (call_within true) (λ o i. (i.0, i.1 refl)))))

pub named_within : (h : Head) → HasResult h → Within (row_of true [] h) (Gives true)
named_within (head.Binary o) r = binary_within o
named_within (head.Cast o) r = cast_within o
named_within head.Icmp r = icmp_within
named_within head.Select r = select_within
named_within head.Alloca r = alloca_within
named_within head.Load r = load_within
named_within head.Store r = absurd r
named_within head.Gep r = gep_within
named_within head.Call r = weaker (call_within true) (λ o i. (i.0, i.1 refl))
named_within head.Phi r = phi_within
named_within head.Rmw r = rmw_within
named_within head.Cmpxchg r = cmpxchg_within
named_within head.Extract r = extract_within
named_within head.Fence r = absurd r
named_within head.Ret r = absurd r
named_within head.Br r = absurd r
named_within head.Switch r = absurd r
named_within head.Unreachable r = absurd r
named_within (head.Ignored i) r = ignored_within i

-- INSTRUCTIONS WHOSE RESULT IS NOT NAMED

-- what it is given is in range, and where it has a result the marks of its number are within their bounds
abbrev pub GivesTaking : List Mark → Op → Type 0
GivesTaking marks o = IsOp o × Takes marks (has_result o)

taking_call_within : (marks : List Mark) → Within (call_row false marks) (GivesTaking marks)
unfolding call_row
taking_call_within marks =
    skip (λ u. taking_type_within marks ⨾ (λ t i. global_within ⨾
    (λ g j. skip (λ u. arguments_within ⨾ (λ os k. skip (λ u. skip (λ u. skip (λ u.
    done (op.Call t g os) ((i.0, j, k), i.1)))))))))

-- a row without a result takes none
without_number : (marks : List Mark) {g : Grammar an_op} → Within g (Gives false) → Within g (GivesTaking marks)
without_number marks h = weaker h (λ o i. (i.0, λ e. absurd (cc (e, i.1))))

-- a row with a result takes the number
numbered_within : (marks : List Mark) {g : Grammar an_op} → Within g (Gives true) → EachWithin marks
    → Within g (GivesTaking marks)
numbered_within marks h w = weaker h (λ o i. (i.0, λ e. w))

taking_ignored_within : (marks : List Mark) (i : RunItem) → Within (ignored_call false marks i) (GivesTaking marks)
unfolding ignored_call
taking_ignored_within marks i = skip (λ a. skip (λ u. skip (λ u. taking_call_within marks)))

pub unnamed_within : (marks : List Mark) (h : Head) → Within (row_of false marks h) (GivesTaking marks)
unnamed_within marks (head.Binary o) = all_marked marks (λ w. numbered_within marks (binary_within o) w)
unnamed_within marks (head.Cast o) = all_marked marks (λ w. numbered_within marks (cast_within o) w)
unnamed_within marks head.Icmp = all_marked marks (λ w. numbered_within marks icmp_within w)
unnamed_within marks head.Select = all_marked marks (λ w. numbered_within marks select_within w)
unnamed_within marks head.Alloca = all_marked marks (λ w. numbered_within marks alloca_within w)
unnamed_within marks head.Load = all_marked marks (λ w. numbered_within marks load_within w)
unnamed_within marks head.Store = without_number marks store_within
unnamed_within marks head.Gep = all_marked marks (λ w. numbered_within marks gep_within w)
unnamed_within marks head.Call = taking_call_within marks
unnamed_within marks head.Phi = all_marked marks (λ w. numbered_within marks phi_within w)
unnamed_within marks head.Rmw = all_marked marks (λ w. numbered_within marks rmw_within w)
unnamed_within marks head.Cmpxchg = all_marked marks (λ w. numbered_within marks cmpxchg_within w)
unnamed_within marks head.Extract = all_marked marks (λ w. numbered_within marks extract_within w)
unnamed_within marks head.Fence = without_number marks fence_within
unnamed_within marks head.Ret = without_number marks ret_within
unnamed_within marks head.Br = without_number marks br_within
unnamed_within marks head.Switch = without_number marks switch_within
unnamed_within marks head.Unreachable = without_number marks unreachable_within
unnamed_within marks (head.Ignored i) = taking_ignored_within marks i
