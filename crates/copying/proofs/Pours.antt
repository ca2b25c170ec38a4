-- A Copy of source sectors that are all found goes as the Write of their bytes.
use mathlib.Core.Path.{◌≡◌, refl, sym, ap, ap₂, ◌∙◌}
use mathlib.Core.List.{List, ◌++◌, append_assoc, append-nil}
use Prim.Native.Nat.{ℕ, zero, suc, ◌+◌, ◌*◌, ◌/◌, ◌≤◌, ◌<◌}
use native.Mathlib.Omega.{arith}
use native.Mathlib.Nat.{zero-mul}
use lib.ListN.{length, drop, set, length-append, length-drop}
use lib.Seq.{drop-drop, drop-append-le}
use Rattle.geometry.specs.declared.params.Lba.{Lba}
use Rattle.geometry.specs.Params.{further}
use Rattle.geometry.proofs.Addresses.{same_lba}
use Rattle.sectors.specs.Transfer.{Transfer, writing}
use Rattle.contents.specs.Content.{Bytes, content_of}
use Rattle.copying.specs.declared.route.Route.{Route}
use Rattle.copying.specs.Images.{image_of}
use Rattle.copying.specs.Copying.{Copying, taken, unless_ended, copying}
use Rattle.copying.proofs.Counts.{Full, full_quotient, full_most, full_split, even_next, needed_enough, needed_no_more}
use Rattle.copying.proofs.Holds.{Holds, none_held, one_held, holds_still}
use Rattle.copying.proofs.Steps.{on_going, on_again, source_read}
use Rattle.copying.proofs.Follows.{Along, Halted, SameSource, Clear, stores_by}

-- every byte read is written or waits
abbrev pub Even : (r : Route) → Copying → Type 0
Even r x = x.read * r.p.size ≡ x.done * r.q.size + length x.rest

-- `read` sectors hold the bytes of the sector behind `done`, and one less does not
pub record Needed (r : Route) (done read : ℕ) : Type 0 where
  pub enough : suc done * r.q.size ≤ read * r.p.size
  pub no_more : read * r.p.size < suc done * r.q.size + r.p.size

module _ (r : Route) (start : List (List ℕ)) (n m : ℕ) (clear : Clear r start n m) (some : 0 < r.q.size) where
  one_taken : (x : Copying) (w : Transfer) (sector : List ℕ) → Along r start x w → Along r start (taken sector x) w
  one_taken x w sector at = record { going = at.going; done = at.done; last = at.last; images = at.images; fits = at.fits }

  -- c source sectors, and then e destination sectors more
  module _ (P : Copying → Transfer → Type 0) (next : Copying → Copying) (e : ℕ) (tail : List ℕ) where
    pub copying_by : (c : ℕ) (s : Lba) (future : List ℕ) (x : Copying) (w : Transfer) → Holds r.p (image_of r.source (set start r.target w.image)) c s future
        → s.0 ≡ r.a.0 + x.read → x.read + c ≤ n → Along r start x w → Even r x → length x.rest < r.q.size
        → (k : ℕ) → Full r.q.size k (length (x.rest ++ future)) → x.done + k ≤ m
        → ((y : Copying) (v : Transfer) → Along r start y v → y.done ≡ x.done + k → y.rest ≡ drop (k * r.q.size) (x.rest ++ future) → y.read ≡ x.read + c
        → SameSource r start n w.image v.image → P (next y) (writing r.q e (further r.b y.done) (y.rest ++ tail) v))
        → ((y : Copying) (v : Transfer) → Halted r start y v → v.done < x.done + k → Needed r v.done y.read → P y v)
        → P (unless_ended (copying r c x) next) (writing r.q (k + e) (further r.b x.done) ((x.rest ++ future) ++ tail) w)
    unfolding copying
    copying_by zero s future x w none_held es le at even short k full on whole halted =
        let D = r.q.size in
        let none : Full D 0 (length x.rest) = record { enough = rw zero-mul (omega arith); no_more = rw zero-mul (omega arith) } in
        let full' : Full D k (length x.rest) = rw (append-nil) at full in
        let k0 : k ≤ 0 = full_most D k 0 (length x.rest) (length x.rest) full' none (omega arith) in
        let k1 : k ≡ 0 = omega arith in
        let none_written : k * D ≡ 0 = ap (λ (i : ℕ). i * D) k1 ∙ zero-mul D in
        let all : k + e ≡ e = omega arith in
        rw (on_going x next at.going, append-nil, all)
        (whole x w at (omega arith) (rw (none_written, append-nil) refl) (omega arith) (λ i h. refl))
    copying_by (suc c) s future x w (one_held {more = fs} d content ld h) es le at even short k full on whole halted =
        let D = r.q.size in
        let got : content_of r.p (further r.a x.read) (image_of r.source x.images) ≡ Bytes d =
        let here : further r.a x.read ≡ s = same_lba (further r.a x.read) s (sym es) in
        rw (at.images, here) content
        in
        let k1 = length (x.rest ++ d) / D in
        let first = full_quotient D (length (x.rest ++ d)) some in
        let all : x.rest ++ (d ++ fs) ≡ (x.rest ++ d) ++ fs = sym (append_assoc x.rest d fs) in
        let longer : length (x.rest ++ d) ≤ length (x.rest ++ (d ++ fs)) = simp length-append (omega arith) in
        let split = full_split D k1 k _ _ first full longer in
        let given : (x.rest ++ (d ++ fs)) ++ tail ≡ (x.rest ++ d) ++ (fs ++ tail) = ap (λ (l : List ℕ). l ++ tail) all ∙ append_assoc (x.rest ++ d) fs tail in
        let count : k + e ≡ k1 + (split.more + e) = omega (arith, split.sum) in
        rw (source_read r x c d got, on_again, given, count)
        (stores_by r start n m clear P (λ y. unless_ended (copying r c y) next) (split.more + e) (fs ++ tail) k1 (taken d x) w (one_taken x w d at) first.enough
        (omega (arith, split.sum))
        (λ y v at' e' d' z' same.
        let e'' : y.done ≡ x.done + k1 = e' in
        let z'' : y.read ≡ suc x.read = z' in
        let d'' : y.rest ≡ drop (k1 * D) (x.rest ++ d) = d' in
        let left : length y.rest + k1 * D ≡ length x.rest + r.p.size = rw d'' (simp length-drop (omega (arith, first.enough, length-append x.rest d, ld))) in
        let sum : length (x.rest ++ (d ++ fs)) ≡ length (x.rest ++ d) + length fs = ap length all ∙ length-append (x.rest ++ d) fs in
        let even' : Even r y = rw (e'', z'') (even_next r.p.size D x.read x.done (length x.rest) k1 even (length y.rest) left) in
        rw (← append_assoc y.rest fs tail)
        (copying_by c _ fs y v
        (holds_still r.p _ _ c _ fs h
        (λ i l. let here : suc s.0 + i ≡ r.a.0 + (suc x.read + i) = omega (arith, es) in rw here (same (suc x.read + i) (omega (arith, le)))))
        (omega (arith, es, z'')) (omega (arith, le, z'')) at' even' (omega (arith, left, first.no_more, length-append x.rest d, ld))
        split.more
        (record {
          enough = omega (arith, length-append y.rest fs, left, sum, full.enough, split.times, length-append x.rest d, ld);
          no_more = omega (arith, length-append y.rest fs, left, sum, full.no_more, split.times, length-append x.rest d, ld);
        })
        (omega (arith, e'', on, split.sum))
        (λ y''' v''' at''' e''' d''' z''' same'''.
        whole y''' v''' at''' (omega (arith, e''', e'', split.sum))
        (d''' ∙ ap (λ (l : List ℕ). drop (split.more * D) (l ++ fs)) d''
        ∙ ap (drop (split.more * D)) (sym (drop-append-le (k1 * D) (x.rest ++ d) fs first.enough))
        ∙ drop-drop (split.more * D) (k1 * D) ((x.rest ++ d) ++ fs)
        ∙ ap₂ {C = List ℕ} (λ (i : ℕ) (l : List ℕ). drop i l) split.times (sym all))
        (omega (arith, z''', z'')) (λ i l. same''' i l ∙ same i l))
        (λ y''' v''' h''' l''' needed. halted y''' v''' h''' (omega (arith, l''', e'', split.sum)) needed)))
        (λ y v h l g z.
        let z' : y.read ≡ suc x.read = z in
        let fits : k1 * D ≤ length x.rest + r.p.size = omega (arith, first.enough, length-append x.rest d, ld) in
        halted y v h (omega (arith, l, g, split.sum))
        (record {
          enough = rw z' (needed_enough r.p.size D x.read x.done (length x.rest) k1 even fits v.done g);
          no_more = rw z' (needed_no_more r.p.size D x.read x.done (length x.rest) k1 even short v.done l);
        })))
