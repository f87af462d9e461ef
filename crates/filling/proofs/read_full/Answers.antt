-- `read_full`: each read's bytes stand behind those before it.
use Rattle.std.proofs.Common.{◌≡◌, ℕ, ◌+◌, ◌-◌, ◌≤◌, List, ◌++◌, Option, rules, arith, length, take, slice_range, sym, ap, ap₂, ◌∙◌, subst, le_refl, drop_at, length-take-le}
use Rattle.std.proofs.lemmas.Slice.{take-put_mid_below}
use Rattle.std.proofs.lemmas.List.{take-append-le}
use Rattle.std.specs.Io.KnownBytes.{Consumes}
use Rattle.std.proofs.KnownBytes.{Consumes-trans}
use borrow.Rule.Slice.PartMut.{put_mid, post_of}
use lib.Seq.{take-add}
use Rattle.filling.proofs.read_full.Goals as goal

-- what a read puts after the first bytes of a buffer is what is there then
filled : (a k n : ℕ) (xs ys : List ℕ) → a ≤ length xs → n ≤ length ys → take a xs ++ take n ys ≡ take (a + n) (put_mid a k xs ys)
filled a k n xs ys within fits =
    let all = put_mid a k xs ys in
    let same : (a + n) - a ≡ n = omega arith in
    let part : slice_range all a (a + n) ≡ take n ys =
    ap (take ((a + n) - a)) (drop_at (take a xs) (ys ++ post_of a k xs) a (length-take-le a xs within))
    ∙ ap (λ m. take m (ys ++ post_of a k xs)) same ∙ take-append-le n ys (post_of a k xs) fits in
    let front : take a all ≡ take a xs = take-put_mid_below _ _ _ _ _ (le_refl _) within in
    ap (λ l. take a xs ++ l) (sym part) ∙ ap (λ l. l ++ slice_range all a (a + n)) (sym front)
    ∙ sym (take-add a ((a + n) - a) all) ∙ ap (λ m. take (a + m) all) same

-- one read more, at the place b behind the first a bytes, and m bytes then
gained : (a b m k n : ℕ) (xs ys : List ℕ) (R S T : Option (List ℕ)) → b ≡ a → m ≡ a + n → a ≤ length xs → n ≤ length ys → Consumes R S (take a xs)
    → Consumes S T (take n ys) → Consumes R T (take m (put_mid b k xs ys))
gained a b m k n xs ys R S T at more within fits before now =
    subst (Consumes R T) (filled a k n xs ys within fits ∙ ap₂ (λ (i j : ℕ). take i (put_mid j k xs ys)) (sym more) (sym at)) (Consumes-trans _ _ _ _ _ before now)

pub fill-preserved : goal.fill-preserved
fill-preserved g c = (
  search rules,
  search rules,
  gained c.fill.done _ _ _ c.in-Ok.n c.fill.buf c.read.new.buf _ _ _ (omega arith) (omega arith) c.fill.invariant.1 c.in-Ok.ensures.bound.0 c.fill.invariant.2 c.in-Ok.ensures.bytes.0,
)
