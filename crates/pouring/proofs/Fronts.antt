-- Bytes moved to the front.
use mathlib.Core.Path.{◌≡◌, refl, sym, ap, ◌∙◌}
use mathlib.Core.List.{List, ◌∷◌, ◌++◌, append_assoc}
use Prim.Native.Nat.{ℕ, zero, suc, ◌+◌, ◌-◌, ◌≤◌}
use native.Mathlib.Omega.{arith}
use lib.ListN.{length, take, drop, replicate, length-append, length-take, length-drop, length-replicate}
use lib.Seq.{take_at, take-append-add, length-take-le}
use borrow.Rule.Slice.PartMut.{put_mid}
use Rattle.base.specs.Part.{part, splice}
use Rattle.base.proofs.Parts.{length_part, splice_lent}
use Rattle.sectors.proofs.Laws.{front_lent, drop_take}

-- ---- bytes put behind those that wait, and what is left of them moved to the front
take_splice : (at : ℕ) (ys xs : List ℕ) → at ≤ length xs → take (at + length ys) (splice at ys xs) ≡ take at xs ++ ys
unfolding splice
take_splice at ys xs h =
    let l : length (take at xs ++ ys) ≡ at + length ys = omega (arith, length-append (take at xs) ys, length-take-le at xs h) in
    ap (take (at + length ys)) (sym (append_assoc (take at xs) ys (drop (at + length ys) xs))) ∙ take_at (take at xs ++ ys) _ (at + length ys) l

pub put_behind : (at size filled : ℕ) (ys xs after : List ℕ) → at + size ≤ length xs → length ys ≤ size → filled ≡ at + length ys
    → after ≡ splice 0 ys (take (at + size - at) (drop at xs)) → take filled (put_mid at (at + size - at) xs after) ≡ take at xs ++ ys
put_behind at size filled ys xs after room few ef e =
    ap (take filled) (front_lent at size (at + size) ys xs after refl room few e) ∙ ap (λ (i : ℕ). take i (splice at ys xs)) ef ∙ take_splice at ys xs (omega arith)

front_of : (n : ℕ) (ys xs : List ℕ) → length ys ≡ n → take n (splice 0 ys xs) ≡ ys
unfolding splice
front_of n ys xs e = take_at ys (drop (0 + length ys) xs) n e

pub left_over : (used filled : ℕ) (xs after : List ℕ) → used ≤ filled → filled ≤ length xs → after ≡ splice 0 (part used (filled - used) xs) xs
    → take (filled - used) after ≡ drop used (take filled xs)
unfolding part
left_over used filled xs after l h e =
    let long : length (part used (filled - used) xs) ≡ filled - used = length_part used (filled - used) xs (omega arith) in
    let all : used + (filled - used) ≡ filled = omega arith in
    ap (take (filled - used)) e ∙ front_of (filled - used) (part used (filled - used) xs) xs long ∙ sym (drop_take used (filled - used) xs)
    ∙ ap (λ (i : ℕ). drop used (take i xs)) all

-- ---- zeros behind the bytes that wait
take_same : (k n b : ℕ) → k ≤ n → take k (replicate n b) ≡ replicate k b
take_same zero n b h = refl
take_same (suc k) zero b h = absurd (omega arith)
take_same (suc k) (suc n) b h = ap (λ (l : List ℕ). b ∷ l) (take_same k n b (omega arith))

pub zeros_behind : (held size : ℕ) (xs after : List ℕ) → held ≤ size → size ≤ length xs → after ≡ replicate (length (take (size - held) (drop held xs))) 0
    → take (size - 0) (drop 0 (put_mid held (size - held) xs after)) ≡ take size (take held xs ++ replicate size 0)
zeros_behind held size xs after l h e =
    let k = size - held in
    let wide : length (take k (drop held xs)) ≡ k = simp (length-take, length-drop) (omega arith) in
    let zeros : after ≡ replicate k 0 = e ∙ ap (λ (i : ℕ). replicate i 0) wide in
    let long : length after ≡ k = ap length zeros ∙ length-replicate {A = ℕ} k 0 in
    let front : length (take held xs) ≡ held = length-take-le held xs (omega arith) in
    let all : size - 0 ≡ held + length after = omega (arith, long) in
    let sum : length (take held xs) + k ≡ size = omega (arith, front) in
    ap (take (size - 0)) (splice_lent held size xs after (omega (arith, long)))
    ∙ ap (λ (i : ℕ). take i (splice held after xs)) all ∙ take_splice held after xs (omega arith)
    ∙ ap (λ (l : List ℕ). take held xs ++ l) (zeros ∙ sym (take_same k size 0 (omega arith)))
    ∙ sym (take-append-add (take held xs) (replicate size 0) k) ∙ ap (λ (i : ℕ). take i (take held xs ++ replicate size 0)) sum
