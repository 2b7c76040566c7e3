-- A text at the front of bytes.
use Rattle.std.proofs.Common.{◌≡◌, ℕ, ◌+◌, ◌<◌, ◌≤◌, Bool, true, false, cond, eqb, ltb, List, [], ◌∷◌, ◌++◌, length}
use Rattle.std.proofs.Common.{take, drop, Option, Some, None, option_map, suc, zero, refl, ◌∙◌, ap, subst, arith}
use Rattle.std.proofs.Common.{length-drop, length-append}
use Rattle.std.proofs.lemmas.Bool.Decides.{nat_tests}
use Rattle.std.specs.List.{list_all}
use Rattle.ds_lex.specs.declared.bytes.ByteClass.TheVariants.{Quote}
use Rattle.ds_lex.specs.declared.bytes.RunOf.TheVariants.{TextBytes}
use Rattle.ds_lex.specs.Bytes.{class_of, belongs, is_quote}
use Rattle.ds_lex.specs.Lexed.{IsClosed, IsText}
use Rattle.ds_lex.specs.Scan.{run_len, closed_len, text_len, ctext_len, starts_colon}
use Rattle.ds_lex.proofs.Runs.{run, run_ended, take_next, first_belongs}
use Rattle.ds_lex.proofs.Firsts.{quote_is}
use Rattle.ds_lex.proofs.Forms.{TextColon}

closed_some : (r n : ℕ) → r < n → cond (ltb r n) (Some (suc r)) None ≡ Some (suc r)
closed_some r n h = grind (arith, nat_tests)

closed_here : (bs : List ℕ) → run_len TextBytes bs < length bs → closed_len bs ≡ Some (suc (run_len TextBytes bs))
unfolding closed_len
closed_here bs h = closed_some (run_len TextBytes bs) (length bs) h

-- a quote behind a run of bytes other than quotes
quote_behind : (bs inside : List ℕ) (more : List ℕ) (i : ℕ) → i ≤ length bs
    → list_all (belongs TextBytes) inside ≡ true → take i bs ≡ inside ++ 34 ∷ more
    → (closed_len bs ≡ Some (suc (length inside))) × (i ≡ length inside + suc (length more))
quote_behind bs inside more i l a h =
    let e = run_ended TextBytes bs inside 34 more i l a refl h in
    let n = ap length e.whole ∙ length-append inside (34 ∷ (more ++ e.rest)) in
    let c = closed_here bs (omega (arith, e.run, n)) in
    (c ∙ ap (λ (m : ℕ). Some (suc m)) e.run, e.taken)

pub closed_only : (bs : List ℕ) (i : ℕ) → i ≤ length bs → IsClosed (take i bs) → closed_len bs ≡ Some i
closed_only bs i l s =
    let q = quote_behind bs s.0 [] i l s.2 s.1 in
    let e : suc (length s.0) ≡ i = omega (arith, q.1) in
    q.0 ∙ ap (λ (m : ℕ). Some m) e

drop_past : (inside : List ℕ) (e : ℕ) (rest : List ℕ) → drop (suc (length inside)) (inside ++ e ∷ rest) ≡ rest
drop_past [] e rest = refl
drop_past (b ∷ bs) e rest = drop_past bs e rest

-- where a text and a colon are the first i bytes, the colon stands behind the text
pub record ColonBehind (bs : List ℕ) (i : ℕ) : Type 0 where
  pub len : ℕ
  pub closed : closed_len bs ≡ Some len
  pub taken : i ≡ suc len
  pub colon : starts_colon (drop len bs) ≡ true

pub closed_colon : (bs : List ℕ) (i : ℕ) → i ≤ length bs → TextColon (take i bs) → ColonBehind bs i
closed_colon bs i l s =
    let q = quote_behind bs s.0 (58 ∷ []) i l s.2 s.1 in
    let e = run_ended TextBytes bs s.0 34 (58 ∷ []) i l s.2 refl s.1 in
    record {
      len = suc (length s.0);
      closed = q.0;
      taken = omega (arith, q.1);
      colon = ap (λ (xs : List ℕ). starts_colon (drop (suc (length s.0)) xs)) e.whole
          ∙ ap starts_colon (drop_past s.0 34 (58 ∷ e.rest));
    }

next_quote : (xs : List ℕ) → first_belongs TextBytes xs ≡ false → 0 < length xs → (rest : List ℕ) × (xs ≡ 34 ∷ rest)
next_quote [] h l = absurd (omega (arith, l))
next_quote (b ∷ bs) h l = let e : b ≡ 34 = grind (arith, nat_tests) in (bs, ap (λ (x : ℕ). x ∷ bs) e)

-- the first n bytes are closed by a quote
pub record Closed (bs : List ℕ) (n : ℕ) : Type 0 where
  pub within : n ≤ length bs
  pub closed : IsClosed (take n bs)
  pub some : 0 < n

closed_by : (bs : List ℕ) (n : ℕ) → cond (ltb (run_len TextBytes bs) (length bs))
    (Some (suc (run_len TextBytes bs))) None ≡ Some n
    → (run_len TextBytes bs < length bs) × (suc (run_len TextBytes bs) ≡ n)
closed_by bs n h = (grind (arith, nat_tests), grind (arith, nat_tests))

pub closed_is : (bs : List ℕ) (n : ℕ) → closed_len bs ≡ Some n → Closed bs n
unfolding closed_len
closed_is bs n h =
    let r = run_len TextBytes bs in
    let p = closed_by bs n h in
    let u = run TextBytes bs in
    let q = next_quote (drop r bs) u.ends (omega (arith, p.0, length-drop r bs)) in
    let P : ℕ → Type 0 = λ m. IsClosed (take m bs) in
    record {
      within = omega (arith, p.0, p.1);
      closed = subst P p.1 (take r bs, take_next r bs 34 q.0 q.1, u.all);
      some = omega (arith, p.1);
    }

pub text_only : (bs : List ℕ) (i : ℕ) → i ≤ length bs → IsText (take i bs) → text_len bs ≡ Some i
unfolding text_len
text_only bs zero l s = absurd s
text_only [] (suc i) l s = absurd (omega (arith, l))
text_only (b ∷ bs) (suc i) l s =
    ap (λ k. cond (is_quote k) (option_map (λ n. suc n) (closed_len bs)) None) s.0
    ∙ ap (option_map (λ n. suc n)) (closed_only bs i (omega (arith, l)) s.1)

-- the first n bytes are a text
pub record Texted (bs : List ℕ) (n : ℕ) : Type 0 where
  pub within : n ≤ length bs
  pub text : IsText (take n bs)
  pub some : 1 < n

option_more : (o : Option ℕ) (n : ℕ) → option_map (λ n. suc n) o ≡ Some n → (m : ℕ) × (o ≡ Some m) × (suc m ≡ n)
option_more None n h = absurd cc
option_more (Some m) n h = (m, refl, cc)

text_by : (b : ℕ) (bs : List ℕ) (n : ℕ) (t : Bool) → is_quote (class_of b) ≡ t
    → cond t (option_map (λ n. suc n) (closed_len bs)) None ≡ Some n → Texted (b ∷ bs) n
text_by b bs n false e h = absurd cc
text_by b bs n true e h =
    let p = option_more (closed_len bs) n h in
    let c = closed_is bs p.0 p.1 in
    let P : ℕ → Type 0 = λ m. IsText (take m (b ∷ bs)) in
    record {
      within = omega (arith, c.within, p.2);
      text = subst P p.2 (quote_is (class_of b) e, c.closed);
      some = omega (arith, c.some, p.2);
    }

pub text_is : (bs : List ℕ) (n : ℕ) → text_len bs ≡ Some n → Texted bs n
unfolding text_len
text_is [] n h = absurd cc
text_is (b ∷ bs) n h = text_by b bs n (is_quote (class_of b)) refl h

pub ctext_only : (b : ℕ) (bs : List ℕ) (i : ℕ) → i ≤ length bs → b ≡ 99 → IsText (take i bs)
    → ctext_len (b ∷ bs) ≡ Some (suc i)
unfolding ctext_len
ctext_only b bs i l e s =
    ap (λ (c : ℕ). cond (eqb c 99) (option_map (λ n. suc n) (text_len bs)) None) e
    ∙ ap (option_map (λ n. suc n)) (text_only bs i l s)

-- the first n bytes behind a c are a text
pub record CTexted (b : ℕ) (bs : List ℕ) (n : ℕ) : Type 0 where
  pub c : b ≡ 99
  pub len : ℕ
  pub found : text_len bs ≡ Some len
  pub one_more : suc len ≡ n

ctext_by : (b : ℕ) (bs : List ℕ) (n : ℕ) (t : Bool) → eqb b 99 ≡ t
    → cond t (option_map (λ n. suc n) (text_len bs)) None ≡ Some n → CTexted b bs n
ctext_by b bs n false e h = absurd cc
ctext_by b bs n true e h =
    let p = option_more (text_len bs) n h in
    record { c = grind (arith, nat_tests); len = p.0; found = p.1; one_more = p.2 }

pub ctext_is : (b : ℕ) (bs : List ℕ) (n : ℕ) → ctext_len (b ∷ bs) ≡ Some n → CTexted b bs n
unfolding ctext_len
ctext_is b bs n h = ctext_by b bs n (eqb b 99) refl h

pub text_here : (b : ℕ) (bs : List ℕ) (n : ℕ) → class_of b ≡ Quote → closed_len bs ≡ Some n
    → text_len (b ∷ bs) ≡ Some (suc n)
unfolding text_len
text_here b bs n c h =
    ap (λ k. cond (is_quote k) (option_map (λ n. suc n) (closed_len bs)) None) c ∙ ap (option_map (λ n. suc n)) h
