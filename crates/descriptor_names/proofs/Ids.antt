-- Ids as two numbers of eight bytes.
use mathlib.Core.Path.{◌≡◌, ap, sym, ◌∙◌}
use mathlib.Core.Logic.{⊎_elim}
use mathlib.Core.Bool.{false}
use mathlib.Core.List.{List}
use Prim.Native.Nat.{ℕ, zero, suc, ◌+◌, ◌*◌, ◌^◌, ◌≤◌, ◌<◌}
use native.Mathlib.Omega.{arith}
use native.Mathlib.Nat.{add-zero, add-suc, pow-zero, pow-suc}
use lib.Dec.{eqb, lit<}
use lib.ListN.{length, take, drop, get_or}
use borrow.Author.Tests.{eq-eqb, ne_eqb}
use Rattle.wire.proofs.Numbers.{be_none, be_more, be_below}
use Rattle.wire.proofs.Picks.{same_or_not}
use Rattle.descriptor_fields.specs.Fields.{id_at, format_of}
use Rattle.protocol.specs.Numbers.{pick, be}
use Rattle.std.specs.Prelude.{None}
use Rattle.std.proofs.lemmas.Bool.Decides.{nat_tests}

-- a number of more bytes, over how many more
be_split : (s : List ℕ) (at n m : ℕ) → at + n + m ≤ length s → be (take (n + m) (drop at s)) ≡ be (take n (drop at s)) * 256 ^ m + be (take m (drop (at + n) s))
be_split s at n zero h = rw (add-zero, be_none s (at + n)) (let one : 256 ^ 0 ≡ 1 = pow-zero 256 in rw one (omega arith))
be_split s at n (suc m) h =
    let e : 256 ^ suc m ≡ 256 ^ m * 256 = pow-suc 256 m in
    let a = be_more s at (n + m) (omega arith) in
    let b = be_more s (at + n) m (omega arith) in
    let i = be_split s at n m (omega arith) in
    let f : get_or s (at + (n + m)) 0 ≡ get_or s (at + n + m) 0 = ap (λ (k : ℕ). get_or s k 0) (omega arith) in
    rw (add-suc n m, a, b, e, i, f) (omega arith)

module _ (s : List ℕ) (at : ℕ) (byte : (i : ℕ) → get_or s i 0 < 256) (h : at + 16 ≤ length s) where
  abbrev high : ℕ
  high = be (take 8 (drop at s))

  abbrev low : ℕ
  low = be (take 8 (drop (at + 8) s))

  pub halves : id_at s at ≡ high * 18446744073709551616 + low
  unfolding id_at
  halves = be_split s at 8 8 (omega arith)

  low_fits : low < 18446744073709551616
  low_fits = be_below s (at + 8) 8 byte (omega arith)

  pub id_small : high ≡ 0 → id_at s at ≡ low
  id_small e = omega (arith, halves)

  pub id_large : (high ≡ 0 → ⊥) → (k : ℕ) → k < 18446744073709551616 → k < id_at s at
  id_large e k l = let p : 1 ≤ high = omega arith in omega (arith, halves)

  pub id_some : (high ≡ 0 → ⊥) → false ≡ eqb (id_at s at) 0
  id_some n = let l = id_large n 0 (lit< tt) in sym (ne_eqb (id_at s at) 0 (λ (e : id_at s at ≡ 0). omega arith))

module _ (s t : List ℕ) (a b : ℕ) (bs : (i : ℕ) → get_or s i 0 < 256) (bt : (i : ℕ) → get_or t i 0 < 256) (ha : a + 16 ≤ length s) (hb : b + 16 ≤ length t) where
  pub ids_same : be (take 8 (drop (a + 8) s)) ≡ be (take 8 (drop (b + 8) t)) → be (take 8 (drop a s)) ≡ be (take 8 (drop b t)) → id_at s a ≡ id_at t b
  ids_same l h = omega (arith, halves s a bs ha, halves t b bt hb)

  pub ids_low : id_at s a ≡ id_at t b → be (take 8 (drop (a + 8) s)) ≡ be (take 8 (drop (b + 8) t))
  ids_low e = omega (arith, halves s a bs ha, halves t b bt hb, low_fits s a bs ha, low_fits t b bt hb)

  pub ids_high : id_at s a ≡ id_at t b → be (take 8 (drop a s)) ≡ be (take 8 (drop b t))
  ids_high e = omega (arith, halves s a bs ha, halves t b bt hb, low_fits s a bs ha, low_fits t b bt hb)

  -- the last four bytes
  pub ids_end : id_at s a ≡ id_at t b → be (take 4 (drop (a + 12) s)) ≡ be (take 4 (drop (b + 12) t))
  unfolding id_at
  ids_end e =
      let p = be_split s a 12 4 (omega arith) in
      let q = be_split t b 12 4 (omega arith) in
      let x : be (take 4 (drop (a + 12) s)) < 4294967296 = be_below s (a + 12) 4 bs (omega arith) in
      let y : be (take 4 (drop (b + 12) t)) < 4294967296 = be_below t (b + 12) 4 bt (omega arith) in
      omega (arith, p, q, x, y)

  pub ids_eqb : be (take 8 (drop (a + 8) s)) ≡ be (take 8 (drop (b + 8) t)) → (u v : ℕ) → u ≡ be (take 8 (drop a s)) → v ≡ be (take 8 (drop b t)) → eqb u v ≡ eqb (id_at s a) (id_at t b)
  ids_eqb l u v p q =
      rw (p, q)
      (⊎_elim
      (λ (e : be (take 8 (drop a s)) ≡ be (take 8 (drop b t))). eq-eqb _ _ e ∙ sym (eq-eqb _ _ (ids_same l e)))
      (λ (n : be (take 8 (drop a s)) ≡ be (take 8 (drop b t)) → ⊥). ne_eqb _ _ n ∙ sym (ne_eqb _ _ (λ e. n (ids_high e))))
      (same_or_not (be (take 8 (drop a s))) (be (take 8 (drop b t)))))

-- ---- the format of an id

pub format_big : (i : ℕ) → 0x130 < i → format_of i ≡ None
unfolding format_of pick
format_big i h = grind (arith, nat_tests)
