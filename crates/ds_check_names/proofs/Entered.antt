-- Which entries a function has: those of names with what they mean.
use Rattle.std.proofs.Common.{◌≡◌, ◌+◌, ℕ, zero, suc, List, [], ◌∷◌, ◌++◌, map, ◌⊎◌, inl, inr, Option, Some, None}
use Rattle.std.proofs.Common.{refl, sym, ap, ◌∙◌, subst, slice_get, arith}
use Rattle.std.specs.Prelude.{flat_map}
use Rattle.std.specs.Option.{option_to_list}
use Rattle.std.proofs.lemmas.List.{map-append}
use Rattle.ds_ast.specs.declared.name.Name.{Name}
use Rattle.ds_ast.specs.declared.instr.Instr.{Instr}
use Rattle.ds_ast.specs.declared.module.Function.{Function}
use Rattle.ds_ast.specs.declared.module.Param.{Param}
use Rattle.ds_ast.specs.declared.module.Block.{Block}
use Rattle.ds_shape.specs.declared.local.LocalType.TheVariants.{Plain}
use Rattle.ds_shape.specs.Types.{Stands, result_type}
use Rattle.ds_shape.specs.Accepted.{local_names}
use Rattle.ds_check_names.specs.declared.meaning.Meaning.{Meaning}
use Rattle.ds_check_names.specs.declared.meaning.Meaning.TheVariants.{Parameter, Label, Result}
use Rattle.ds_check_names.specs.Scope.{Means}
use Rattle.ds_check_names.specs.Entries.{Entry, names_of, meanings_of, parameter_entries, result_entries, code_entries}
use Rattle.ds_check_names.specs.Entries.{block_entry, block_entries, entries_of}
use Rattle.ds_check_names.proofs.Lists.{number_of}

-- NAMES

parameter_names : (ps : List Param) → names_of (parameter_entries ps) ≡ map (λ (p : Param). p.name) ps
parameter_names [] = refl
parameter_names (p ∷ ps) = ap (λ ns. p.name ∷ ns) (parameter_names ps)

result_names : (F : Name → Meaning) (o : Option Name)
    → names_of (map (λ (n : Name). record { name = n; meaning = F n }) (option_to_list o)) ≡ option_to_list o
result_names F None = refl
result_names F (Some n) = refl

code_names : (b k : ℕ) (code : List Instr)
    → names_of (code_entries b k code) ≡ flat_map (λ (i : Instr). option_to_list i.result) code
code_names b k [] = refl
code_names b k (i ∷ is) =
    map-append (λ (e : Entry). e.name) (result_entries b k i) (code_entries b (suc k) is)
    ∙ ap (λ ns. ns ++ names_of (code_entries b (suc k) is))
    (result_names (λ n. Result (result_type i.op) b k) i.result)
    ∙ ap (λ ns. option_to_list i.result ++ ns) (code_names b (suc k) is)

abbrev block_named : Block → List Name
block_named b = b.name ∷ flat_map (λ (i : Instr). option_to_list i.result) b.code

block_names : (b : ℕ) (blocks : List Block) → names_of (block_entries b blocks) ≡ flat_map block_named blocks
block_names b [] = refl
block_names b (c ∷ cs) =
    map-append (λ (e : Entry). e.name) (block_entry b c) (block_entries (suc b) cs)
    ∙ ap (λ ns. (c.name ∷ ns) ++ names_of (block_entries (suc b) cs)) (code_names b 0 c.code)
    ∙ ap (λ ns. block_named c ++ ns) (block_names (suc b) cs)

-- the names of the entries are the function's local names
pub entry_names : (f : Function) → names_of (entries_of f) ≡ local_names f
entry_names f =
    map-append (λ (e : Entry). e.name) (parameter_entries f.params) (block_entries 0 f.blocks)
    ∙ ap (λ ns. ns ++ names_of (block_entries 0 f.blocks)) (parameter_names f.params)
    ∙ ap (λ ns. map (λ (p : Param). p.name) f.params ++ ns) (block_names 0 f.blocks)

-- so those that parameters and then blocks put behind no names are
pub names_put : (f : Function) (none named : List Name) (ps : List Param) (bs : List Block) → none ≡ [] → ps ≡ f.params
    → bs ≡ f.blocks → named ≡ none ++ names_of (parameter_entries ps)
    → named ++ names_of (block_entries 0 bs) ≡ local_names f
names_put f none named ps bs empty params blocks is =
    ap (λ ns. ns ++ names_of (block_entries 0 bs)) is
    ∙ ap (λ ns. (ns ++ names_of (parameter_entries ps)) ++ names_of (block_entries 0 bs)) empty
    ∙ ap (λ xs. names_of (parameter_entries xs) ++ names_of (block_entries 0 bs)) params
    ∙ ap (λ xs. names_of (parameter_entries f.params) ++ names_of (block_entries 0 xs)) blocks
    ∙ sym (map-append (λ (e : Entry). e.name) (parameter_entries f.params) (block_entries 0 f.blocks)) ∙ entry_names f

-- HAS

-- some entry gives the name the meaning
abbrev pub Has : Name → Meaning → List Entry → Type 0
Has n w [] = ⊥
Has n w (e ∷ es) = ((e.name ≡ n) × (e.meaning ≡ w)) ⊎ Has n w es

has_first : (n : Name) (w : Meaning) (xs ys : List Entry) → Has n w xs → Has n w (xs ++ ys)
has_first n w [] ys h = absurd h
has_first n w (x ∷ xs) ys (inl h) = inl h
has_first n w (x ∷ xs) ys (inr h) = inr (has_first n w xs ys h)

has_second : (n : Name) (w : Meaning) (xs ys : List Entry) → Has n w ys → Has n w (xs ++ ys)
has_second n w [] ys h = h
has_second n w (x ∷ xs) ys h = inr (has_second n w xs ys h)

has_either : (n : Name) (w : Meaning) (xs ys : List Entry) → Has n w (xs ++ ys) → Has n w xs ⊎ Has n w ys
has_either n w [] ys h = inr h
has_either n w (x ∷ xs) ys (inl h) = inl (inl h)
has_either n w (x ∷ xs) ys (inr h) = further (has_either n w xs ys h)
  where
    further : Has n w xs ⊎ Has n w ys → Has n w (x ∷ xs) ⊎ Has n w ys
    further (inl a) = inl (inr a)
    further (inr b) = inr b

-- entries by numbers
pub has_at : (n : Name) (w : Meaning) (es : List Entry) (i : ℕ) → slice_get (names_of es) i ≡ Some n
    → slice_get (meanings_of es) i ≡ Some w → Has n w es
has_at n w [] i a b = cc
has_at n w (e ∷ es) zero a b = inl (cc, cc)
has_at n w (e ∷ es) (suc i) a b = inr (has_at n w es i a b)

pub at_has : (n : Name) (w : Meaning) (es : List Entry) → Has n w es → (i : ℕ) × (slice_get (names_of es) i ≡ Some n)
    × (slice_get (meanings_of es) i ≡ Some w)
at_has n w [] h = absurd h
at_has n w (e ∷ es) (inl h) = (0, ap Some h.0, ap Some h.1)
at_has n w (e ∷ es) (inr h) = let r : (i : ℕ) × (slice_get (names_of es) i ≡ Some n)
    × (slice_get (meanings_of es) i ≡ Some w) = at_has n w es h in (suc r.0, r.1, r.2)

-- FROM ENTRIES

parameter_of : (n : Name) (w : Meaning) (ps : List Param) → Has n w (parameter_entries ps)
    → (p : Param) × Stands p ps × (p.name ≡ n) × (w ≡ Parameter (Plain p.ty))
parameter_of n w [] h = absurd h
parameter_of n w (p ∷ ps) (inl h) = (p, ([], ps, refl), h.0, sym h.1)
parameter_of n w (p ∷ ps) (inr h) =
    let r : (p : Param) × Stands p ps × (p.name ≡ n) × (w ≡ Parameter (Plain p.ty)) = parameter_of n w ps h in
    (r.0, (p ∷ r.1.0, r.1.1, ap (λ l. p ∷ l) r.1.2), r.2, r.3)

result_of : (n : Name) (w v : Meaning) (o : Option Name)
    → Has n w (map (λ (m : Name). record { name = m; meaning = v }) (option_to_list o)) → (o ≡ Some n) × (w ≡ v)
result_of n w v None h = absurd h
result_of n w v (Some m) (inl h) = (ap Some h.0, sym h.1)
result_of n w v (Some m) (inr h) = absurd h

-- an instruction gives the name this meaning, where the first of them has the number k
abbrev FromCode : Name → Meaning → ℕ → ℕ → List Instr → Type 0
FromCode n w b k code = (i : Instr) × (j : ℕ) × (slice_get code j ≡ Some i) × (i.result ≡ Some n)
    × (w ≡ Result (result_type i.op) b (k + j))

code_of : (n : Name) (w : Meaning) (b k : ℕ) (code : List Instr) → Has n w (code_entries b k code)
    → FromCode n w b k code
code_of n w b k [] h = absurd h
code_of n w b k (i ∷ is) h =
    either (code_of n w b (suc k) is) (has_either n w (result_entries b k i) (code_entries b (suc k) is) h)
  where
    here : k ≡ k + 0
    here = omega arith

    later : (j : ℕ) → suc k + j ≡ k + suc j
    later j = omega arith

    either : (Has n w (code_entries b (suc k) is) → FromCode n w b (suc k) is) → Has n w (result_entries b k i)
        ⊎ Has n w (code_entries b (suc k) is) → FromCode n w b k (i ∷ is)
    either further (inl a) = let r = result_of n w (Result (result_type i.op) b k) i.result a in
        (i, 0, refl, r.0, r.1 ∙ ap (λ m. Result (result_type i.op) b m) here)
    either further (inr a) = let r : FromCode n w b (suc k) is = further a in
        (r.0, suc r.1, r.2, r.3, r.4 ∙ ap (λ m. Result (result_type r.0.op) b m) (later r.1))

-- a label, or the result of an instruction in a block, where the first of them has the number b
abbrev FromBlocks : Name → Meaning → ℕ → List Block → Type 0
FromBlocks n w b blocks =
    (c : Block) × (j : ℕ) × (slice_get blocks j ≡ Some c)
    × (((c.name ≡ n) × (w ≡ Label (b + j))) ⊎ FromCode n w (b + j) 0 c.code)

blocks_of : (n : Name) (w : Meaning) (b : ℕ) (blocks : List Block) → Has n w (block_entries b blocks)
    → FromBlocks n w b blocks
blocks_of n w b [] h = absurd h
blocks_of n w b (c ∷ cs) h =
    either (blocks_of n w (suc b) cs) (has_either n w (block_entry b c) (block_entries (suc b) cs) h)
  where
    here : b ≡ b + 0
    here = omega arith

    later : (j : ℕ) → suc b + j ≡ b + suc j
    later j = omega arith

    first : Has n w (block_entry b c) → ((c.name ≡ n) × (w ≡ Label b)) ⊎ FromCode n w b 0 c.code
    first (inl a) = inl (a.0, sym a.1)
    first (inr a) = inr (code_of n w b 0 c.code a)

    either : (Has n w (block_entries (suc b) cs) → FromBlocks n w (suc b) cs)
        → Has n w (block_entry b c) ⊎ Has n w (block_entries (suc b) cs) → FromBlocks n w b (c ∷ cs)
    either further (inl a) =
        (c, 0, refl, subst (λ m. ((c.name ≡ n) × (w ≡ Label m)) ⊎ FromCode n w m 0 c.code) here (first a))
    either further (inr a) = let r : FromBlocks n w (suc b) cs = further a in
        (r.0, suc r.1, r.2, subst (λ m. ((r.0.name ≡ n) × (w ≡ Label m)) ⊎ FromCode n w m 0 r.0.code) (later r.1) r.3)

block_means : (f : Function) (n : Name) (w : Meaning) (c : Block) (j : ℕ) → slice_get f.blocks j ≡ Some c
    → ((c.name ≡ n) × (w ≡ Label j)) ⊎ FromCode n w j 0 c.code → Means f n w
block_means f n w c j e (inl h) = subst (Means f n) (sym h.1) (c, e, h.0)
block_means f n w c j e (inr h) =
    subst (Means f n) (sym (h.4 ∙ ap (λ m. Result (result_type h.0.op) j m) from_zero)) (c, h.0, e, h.2, h.3, refl)
  where
    from_zero : 0 + h.1 ≡ h.1
    from_zero = omega arith

-- what an entry says is what the name means
pub has_means : (f : Function) (n : Name) (w : Meaning) → Has n w (entries_of f) → Means f n w
has_means f n w h = either (has_either n w (parameter_entries f.params) (block_entries 0 f.blocks) h)
  where
    either : Has n w (parameter_entries f.params) ⊎ Has n w (block_entries 0 f.blocks) → Means f n w
    either (inl a) =
        let r : (p : Param) × Stands p f.params × (p.name ≡ n) × (w ≡ Parameter (Plain p.ty)) =
        parameter_of n w f.params a in
        subst (Means f n) (sym r.3) (r.0, r.1, r.2, refl)
    either (inr a) =
        let r : FromBlocks n w 0 f.blocks = blocks_of n w 0 f.blocks a in
        let from_zero : 0 + r.1 ≡ r.1 = omega arith in
        block_means f n w r.0 r.1 r.2
        (subst (λ m. ((r.0.name ≡ n) × (w ≡ Label m)) ⊎ FromCode n w m 0 r.0.code) from_zero r.3)

-- TO ENTRIES

parameter_has : (n : Name) (ps : List Param) (i : ℕ) (p : Param) → slice_get ps i ≡ Some p → p.name ≡ n
    → Has n (Parameter (Plain p.ty)) (parameter_entries ps)
parameter_has n [] i p e called = cc
parameter_has n (q ∷ ps) zero p e called =
    subst (λ (x : Param). Has n (Parameter (Plain p.ty)) (parameter_entries (x ∷ ps))) same (inl (called, refl))
  where
    same : p ≡ q
    same = cc
parameter_has n (q ∷ ps) (suc i) p e called = inr (parameter_has n ps i p e called)

result_has : (n : Name) (w : Meaning) (o : Option Name) → o ≡ Some n
    → Has n w (map (λ (m : Name). record { name = m; meaning = w }) (option_to_list o))
result_has n w None e = cc
result_has n w (Some m) e = inl (cc, refl)

code_has : (n : Name) (b k j m : ℕ) (code : List Instr) (i : Instr) → slice_get code j ≡ Some i → i.result ≡ Some n
    → m ≡ k + j
    → Has n (Result (result_type i.op) b m) (code_entries b k code)
code_has n b k j m [] i e called at = cc
code_has n b k zero m (x ∷ is) i e called at =
    has_first n (Result (result_type i.op) b m) (result_entries b k x) (code_entries b (suc k) is)
    (subst (λ (y : Instr). Has n (Result (result_type i.op) b m) (result_entries b k y)) same
    (subst (λ q. Has n (Result (result_type i.op) b m) (result_entries b q i)) here
    (result_has n (Result (result_type i.op) b m) i.result called)))
  where
    same : i ≡ x
    same = cc

    here : m ≡ k
    here = omega (arith, at)
code_has n b k (suc j) m (x ∷ is) i e called at =
    has_second n (Result (result_type i.op) b m) (result_entries b k x) (code_entries b (suc k) is)
    (code_has n b (suc k) j m is i e called (omega (arith, at)))

block_has : (n : Name) (w : Meaning) (b j m : ℕ) (blocks : List Block) (c : Block) → slice_get blocks j ≡ Some c
    → m ≡ b + j → Has n w (block_entry m c) → Has n w (block_entries b blocks)
block_has n w b j m [] c e at h = cc
block_has n w b zero m (x ∷ cs) c e at h =
    has_first n w (block_entry b x) (block_entries (suc b) cs)
    (subst (λ (y : Block). Has n w (block_entry b y)) same (subst (λ q. Has n w (block_entry q c)) here h))
  where
    same : c ≡ x
    same = cc

    here : m ≡ b
    here = omega (arith, at)
block_has n w b (suc j) m (x ∷ cs) c e at h = has_second n w (block_entry b x) (block_entries (suc b) cs)
    (block_has n w (suc b) j m cs c e (omega (arith, at)) h)

-- what the name means an entry says
pub means_has : (f : Function) (n : Name) (w : Meaning) → Means f n w → Has n w (entries_of f)
means_has f n (Parameter t) h =
    let i : (i : ℕ) × (slice_get f.params i ≡ Some h.0) = number_of f.params h.0 h.1 in
    has_first n (Parameter t) (parameter_entries f.params) (block_entries 0 f.blocks)
    (subst (λ t. Has n (Parameter t) (parameter_entries f.params)) (sym h.3)
    (parameter_has n f.params i.0 h.0 i.1 h.2))
means_has f n (Label b) h =
    has_second n (Label b) (parameter_entries f.params) (block_entries 0 f.blocks)
    (block_has n (Label b) 0 b b f.blocks h.0 h.1 (omega arith) (inl (h.2, refl)))
means_has f n (Result t b k) h =
    has_second n (Result t b k) (parameter_entries f.params) (block_entries 0 f.blocks)
    (block_has n (Result t b k) 0 b b f.blocks h.0 h.2 (omega arith)
    (inr (subst (λ t. Has n (Result t b k) (code_entries b 0 h.0.code)) (sym h.5)
    (code_has n b 0 k k h.0.code h.1 h.3 h.4 (omega arith)))))
