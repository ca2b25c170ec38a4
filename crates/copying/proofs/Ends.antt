-- How a Copy of what was read ends: at a destination fault, at a source fault, whole, or with the last sector filled in part.
use mathlib.Core.Path.{◌≡◌, refl, sym, ap, ◌∙◌}
use mathlib.Core.Bool.{false}
use mathlib.Core.List.{List, [], ◌∷◌, ◌++◌}
use Prim.Native.Nat.{ℕ, zero, suc, ◌*◌, ◌%◌, ◌≤◌, ◌<◌, min}
use native.Mathlib.Omega.{arith}
use native.Mathlib.Nat.{min-eq_left, min-eq_right}
use borrow.Author.Tests.{lt-ltb, le-ltb, eq-eqb, ne_eqb}
use lib.ListN.{set, replicate}
use lib.Dec.{ltb}
use Rattle.base.proofs.Decide.{pick_true, pick-false}
use Rattle.geometry.specs.Params.{further}
use Rattle.sectors.specs.Transfer.{Transfer, write_slot, writing}
use Rattle.contents.specs.Content.{Missing, content_of}
use Rattle.copying.specs.declared.route.Route.{Route}
use Rattle.copying.specs.Ends.{Going, SourceFault, TargetFault, Short}
use Rattle.copying.specs.Images.{image_of}
use Rattle.copying.specs.Copying.{Copying, stopped, with_rest, filled, poured_by, copying, completed_by, completed}
use Rattle.copying.specs.Listwise.{filled_by, sectors_for, end_of, read_of, left_by}
use Rattle.copying.proofs.Counts.{Full, needed_is, needed_most, needed_past}
use Rattle.copying.proofs.Steps.{on_going, on_source, on_target, part_completed, filled_long}
use Rattle.copying.proofs.Follows.{Along, Halted, Clear, store_by, shorter}
use Rattle.copying.proofs.Pours.{Needed}

eq_ltb : (a b : ℕ) → a ≡ b → ltb a b ≡ false
eq_ltb a b e = le-ltb a b (omega arith)

module _ (r : Route) (n : ℕ) (images : List (List ℕ)) (x : Transfer) where
  left_is : (y : Copying) (w : Transfer) → y.read ≡ read_of r n x w → y.done ≡ w.done → y.rest ≡ [] → y.last ≡ w.last
      → y.images ≡ set images r.target w.image → y.end ≡ end_of r n x w → y ≡ left_by r n images x w
  left_is y w a b c d e f = λ i. record { read = a i; done = b i; rest = c i; last = d i; images = e i; end = f i }

  -- ---- what the ends are, by the sectors done
  module _ (w : Transfer) where
    target_end : w.done < sectors_for r n x.done → end_of r n x w ≡ TargetFault w.code
    unfolding end_of
    target_end l = pick_true _ _ _ (lt-ltb _ _ l)

    target_read : w.done < sectors_for r n x.done → read_of r n x w ≡ min n (filled_by (suc w.done) r.q.size r.p.size)
    unfolding read_of
    target_read l = pick_true _ _ _ (lt-ltb _ _ l)

    whole_read : w.done ≡ sectors_for r n x.done → read_of r n x w ≡ x.done
    unfolding read_of
    whole_read e = pick-false _ _ _ (eq_ltb _ _ e)

    source_end : w.done ≡ sectors_for r n x.done → x.done < n → end_of r n x w ≡ SourceFault x.code
    unfolding end_of
    source_end e l = pick-false _ _ _ (eq_ltb _ _ e) ∙ pick_true _ _ _ (lt-ltb _ _ l)

    whole_end : w.done ≡ sectors_for r n x.done → x.done ≡ n → n * r.p.size % r.q.size ≡ 0 → end_of r n x w ≡ Going
    unfolding end_of
    whole_end e l z = pick-false _ _ _ (eq_ltb _ _ e) ∙ pick-false _ _ _ (eq_ltb _ _ l) ∙ pick_true _ _ _ (eq-eqb _ _ z)

    short_end : w.done ≡ sectors_for r n x.done → x.done ≡ n → (n * r.p.size % r.q.size ≡ 0 → ⊥) → end_of r n x w ≡ Short
    unfolding end_of
    short_end e l z = pick-false _ _ _ (eq_ltb _ _ e) ∙ pick-false _ _ _ (eq_ltb _ _ l) ∙ pick-false _ _ _ (ne_eqb _ _ z)

  -- ---- a destination sector that is not found
  halted_left : (y : Copying) (w : Transfer) → Halted r images y w → w.done < sectors_for r n x.done
      → y.read ≡ min n (filled_by (suc w.done) r.q.size r.p.size) → y ≡ left_by r n images x w
  halted_left y w h l e =
      left_is y w (e ∙ sym (target_read w l)) h.done h.rest h.last h.images (h.end ∙ sym (target_end w l))

  pub halted_ends : (y : Copying) (w : Transfer) → Halted r images y w → (k : ℕ) → k ≤ sectors_for r n x.done → w.done < k → Full r.q.size k (x.done * r.p.size)
      → x.done ≤ n → 0 < r.p.size → Needed r w.done y.read → completed r y ≡ left_by r n images x w
  unfolding completed
  halted_ends y w h k most l full le some needed =
      let is = needed_is r.p.size (suc w.done * r.q.size) y.read some needed.enough needed.no_more in
      let few = needed_most r.p.size r.q.size x.done k w.done y.read full l needed.no_more in
      on_target y _ w.code h.end
      ∙ halted_left y w h (omega arith) (sym (min-eq_right (omega (arith, is, few)) ∙ is))

  -- ---- a source sector that is not found
  pub source_ends : (c : ℕ) (y : Copying) (w : Transfer) → Along r images y w → w.done ≡ sectors_for r n x.done → x.done < n → y.read ≡ x.done
      → content_of r.p (further r.a y.read) (image_of r.source y.images) ≡ Missing x.code → completed r (copying r (suc c) y) ≡ left_by r n images x w
  unfolding completed copying poured_by
  source_ends c y w at e l z missing =
      rw missing
      (on_source (stopped (SourceFault x.code) y) _ x.code refl
      ∙ left_is (stopped (SourceFault x.code) y) w (z ∙ sym (whole_read w e)) at.done refl at.last at.images (sym (source_end w e l)))

  -- ---- whole sectors
  pub whole_ends : (y : Copying) (w : Transfer) → Along r images y w → w.done ≡ sectors_for r n x.done → x.done ≡ n → y.read ≡ x.done
      → n * r.p.size % r.q.size ≡ 0 → y.rest ≡ [] → completed r y ≡ left_by r n images x w
  unfolding completed completed_by
  whole_ends y w at e l z none empty =
      on_going y _ at.going ∙ ap (completed_by r y) empty
      ∙ left_is y w (z ∙ sym (whole_read w e)) at.done empty at.last at.images (at.going ∙ sym (whole_end w e l none))

  -- ---- the last sector in part
  module _ (m : ℕ) (clear : Clear r images n m) where
    pub short_ends : (y : Copying) (w : Transfer) → Along r images y w → suc w.done ≡ sectors_for r n x.done → x.done ≡ n → y.read ≡ x.done
        → w.done < m → 0 < r.p.size → (n * r.p.size % r.q.size ≡ 0 → ⊥) → n * r.p.size < suc w.done * r.q.size → (byte : ℕ) (more : List ℕ) → y.rest ≡ byte ∷ more
        → completed r y ≡ left_by r n images x (writing r.q (suc zero) (further r.b y.done) (y.rest ++ replicate r.q.size 0) w)
    unfolding writing
    short_ends y w at e l z room some part over byte more is =
        part_completed r y byte more at.going is
        ∙ store_by r images n m clear (with_rest [] y) w (shorter r images n m clear y w [] at) (filled r.q.size y.rest) (filled_long r.q.size y.rest)
        (omega (arith, at.done)) (λ c v. c ≡ left_by r n images x v) (λ c. stopped Short c) _
        (λ c t k at' e' d' z' same.
        let all : (write_slot r.q (filled r.q.size y.rest) w t k).done ≡ sectors_for r n x.done = omega (arith, at'.done, e', at.done, e) in
        left_is (stopped Short c) (write_slot r.q (filled r.q.size y.rest) w t k) (z' ∙ z ∙ sym (whole_read _ all)) at'.done refl at'.last at'.images
        (sym (short_end _ all l part)))
        (λ c v h e' z'.
        let same : v.done ≡ w.done = e' ∙ at.done in
        let past : n < filled_by (suc v.done) r.q.size r.p.size = needed_past r.p.size (suc v.done * r.q.size) n some (rw same over) in
        halted_left c v h (omega (arith, same, e)) (z' ∙ z ∙ l ∙ sym (min-eq_left (omega (arith, past)))))
