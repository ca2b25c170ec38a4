-- A Copy, step by step, is a Read of the whole source and then a Write of what was read.
use mathlib.Core.Path.{◌≡◌, refl, sym, ap, ap₂, ◌∙◌}
use mathlib.Core.List.{List, [], ◌∷◌, ◌++◌}
use Prim.Native.Nat.{ℕ, zero, suc, ◌+◌, ◌-◌, ◌*◌, ◌/◌, ◌%◌, ◌≤◌, ◌<◌}
use native.Mathlib.Omega.{arith}
use native.Mathlib.Nat.{zero-mul, add-zero, suc-mul, div-add-mod'}
use native.Mathlib.Decide.{dec_lt, ℕ_discrete}
use lib.ListN.{length, drop, set, replicate, length-drop}
use Rattle.base.proofs.Parts.{length_none}
use Rattle.geometry.specs.Params.{further}
use Rattle.sectors.specs.Transfer.{Transfer, begun, writing}
use Rattle.contents.specs.Content.{content_of}
use Rattle.copying.specs.declared.route.Route.{Route}
use Rattle.copying.specs.Images.{image_of}
use Rattle.copying.specs.Copying.{Copying, copy_begun, unless_ended, copying, completed, copied}
use Rattle.copying.specs.Listwise.{filled_by, read_all, sectors_for, write_all, left_by, copied_at_once, Fitting}
use Rattle.copying.proofs.Counts.{Full, full_quotient, filled_whole, filled_part, filled_most}
use Rattle.copying.proofs.Drives.{image_kept}
use Rattle.copying.proofs.Sources.{IsRead, is_read, all_for, some_for}
use Rattle.copying.proofs.Steps.{on_self, copying_more}
use Rattle.copying.proofs.Follows.{Along}
use Rattle.copying.proofs.Pours.{copying_by}
use Rattle.copying.proofs.Clears.{clear_of}
use Rattle.copying.proofs.Ends.{halted_ends, source_ends, whole_ends, short_ends}

not_empty : {P : Type 0} (l : List ℕ) → (l ≡ [] → ⊥) → ((byte : ℕ) (more : List ℕ) → l ≡ byte ∷ more → P) → P
not_empty [] ne h = absurd (ne refl)
not_empty (byte ∷ more) ne h = h byte more refl

module _ (r : Route) (n : ℕ) (images : List (List ℕ)) (fit : Fitting r n images) where
  begun_along : Along r images (copy_begun images) (begun (image_of r.target images))
  unfolding begun
  begun_along = record { going = refl; done = refl; last = refl; images = sym (image_kept r.target images); fits = fit.target_fits }

  begun_image : set images r.target (begun (image_of r.target images)).image ≡ images
  unfolding begun
  begun_image = image_kept r.target images

  module _ (x : Transfer) (is : IsRead r n images x) where
    abbrev ReadThenWritten : Type 0
    ReadThenWritten = copied r n images ≡ left_by r n images x (write_all r n images x)

    abbrev whole : ℕ
    whole = x.done * r.p.size / r.q.size

    full : Full r.q.size whole (x.done * r.p.size)
    full = full_quotient r.q.size (x.done * r.p.size) fit.target_some

    room : whole ≤ filled_by n r.p.size r.q.size
    room = filled_most x.done n r.p.size r.q.size whole fit.target_some is.most full

    -- the sectors read, and e destination sectors behind the whole ones
    from_begun : (next : Copying → Copying) (e : ℕ) → whole + e ≡ sectors_for r n x.done
        → ((y : Copying) (v : Transfer) → Along r images y v → y.done ≡ whole → y.rest ≡ drop (whole * r.q.size) x.handed → y.read ≡ x.done
        → ((i : ℕ) → i < n → content_of r.p (further r.a i) (image_of r.source y.images) ≡ content_of r.p (further r.a i) (image_of r.source images))
        → completed r (next y) ≡ left_by r n images x (writing r.q e (further r.b y.done) (y.rest ++ replicate r.q.size 0) v))
        → completed r (unless_ended (copying r x.done (copy_begun images)) next) ≡ left_by r n images x (write_all r n images x)
    from_begun next e count ends =
        copying_by r images n (filled_by n r.p.size r.q.size) (clear_of r n images fit) fit.target_some (λ y w. completed r y ≡ left_by r n images x w) next e
        (replicate r.q.size 0) x.done r.a x.handed (copy_begun images) (begun (image_of r.target images)) (rw begun_image is.held)
        (sym (add-zero r.a.0)) (omega (arith, is.most)) begun_along (omega (arith, zero-mul r.p.size, zero-mul r.q.size)) fit.target_some whole
        (rw is.long full) (omega (arith, room))
        (λ y v at d l z same.
        ends y v at (omega (arith, d)) l (omega (arith, z))
        (λ i h.
        ap (λ (now : List (List ℕ)). content_of r.p (further r.a i) (image_of r.source now)) at.images ∙ same i h
        ∙ ap (λ (now : List (List ℕ)). content_of r.p (further r.a i) (image_of r.source now)) begun_image))
        (λ y v h l needed.
        halted_ends r n images x y v h whole (omega (arith, count)) (omega (arith, l)) full is.most fit.source_some needed)
        ∙ ap₂ {C = Copying}
        (λ (b c : ℕ). left_by r n images x (writing r.q c (record { 0 = b }) (x.handed ++ replicate r.q.size 0) (begun (image_of r.target images))))
        (add-zero r.b.0) count

    count_stopped : x.done < n → sectors_for r n x.done ≡ whole
    count_stopped l = some_for r n x.done (λ e. omega arith)

    count_all : x.done ≡ n → sectors_for r n x.done ≡ filled_by x.done r.p.size r.q.size
    count_all e = all_for r n x.done e

    left_over : (y : Copying) → y.rest ≡ drop (whole * r.q.size) x.handed → length y.rest ≡ x.done * r.p.size % r.q.size
    left_over y e =
        let split = div-add-mod' (x.done * r.p.size) r.q.size in
        ap length e ∙ simp length-drop (omega (arith, is.long, split))

    -- ---- the three ends
    stopped_copy : x.done < n → ReadThenWritten
    unfolding writing
    stopped_copy l =
        let c = n - suc x.done in
        let all : n ≡ x.done + suc c = omega arith in
        ap (λ (i : ℕ). completed r (copying r i (copy_begun images))) all ∙ ap (completed r) (copying_more r x.done (suc c) (copy_begun images) refl)
        ∙ from_begun (λ y. copying r (suc c) y) zero (omega (arith, count_stopped l))
        (λ y v at d e z same.
        source_ends r n images x c y v at (omega (arith, at.done, d, count_stopped l)) l z
        (ap (λ (i : ℕ). content_of r.p (further r.a i) (image_of r.source y.images)) z ∙ same x.done l ∙ is.stop l))

    module _ (e : x.done ≡ n) where
      to_the_end : (completed r (unless_ended (copying r x.done (copy_begun images)) (λ y. y)) ≡ left_by r n images x (write_all r n images x))
          → ReadThenWritten
      to_the_end h =
          ap (λ (c : ℕ). completed r (copying r c (copy_begun images))) (sym e) ∙ ap (completed r) (sym (on_self (copying r x.done (copy_begun images)))) ∙ h

      full_copy : x.done * r.p.size % r.q.size ≡ 0 → ReadThenWritten
      unfolding writing
      full_copy none =
          let count : sectors_for r n x.done ≡ whole = count_all e ∙ filled_whole (x.done * r.p.size) r.q.size fit.target_some none in
          to_the_end
          (from_begun (λ y. y) zero (omega (arith, count))
          (λ y v at d l z same.
          whole_ends r n images x y v at (omega (arith, at.done, d, count)) e z (ap (λ (c : ℕ). c * r.p.size % r.q.size) (sym e) ∙ none)
          (length_none y.rest (left_over y l ∙ none))))

      short_copy : (x.done * r.p.size % r.q.size ≡ 0 → ⊥) → ReadThenWritten
      short_copy some =
          let count : sectors_for r n x.done ≡ suc whole = count_all e ∙ filled_part (x.done * r.p.size) r.q.size fit.target_some some in
          let bytes : n * r.p.size ≡ x.done * r.p.size = ap (λ (c : ℕ). c * r.p.size) (sym e) in
          let last : suc whole ≤ filled_by n r.p.size r.q.size =
          rw (ap (λ (c : ℕ). filled_by c r.p.size r.q.size) (sym e), filled_part (x.done * r.p.size) r.q.size fit.target_some some) (omega arith)
          in
          to_the_end
          (from_begun (λ y. y) (suc zero) (omega (arith, count))
          (λ y v at d l z same.
          let done : v.done ≡ whole = sym at.done ∙ d in
          let over : n * r.p.size < suc v.done * r.q.size =
          rw (bytes, done) (omega (arith, full.no_more, suc-mul whole r.q.size))
          in
          not_empty y.rest (λ none. some (sym (left_over y l) ∙ ap length none))
          (λ byte more is-more.
          short_ends r n images x (filled_by n r.p.size r.q.size) (clear_of r n images fit) y v at (omega (arith, done, count)) e z
          (omega (arith, done, last)) fit.source_some
          (λ none. some (ap (λ (c : ℕ). c % r.q.size) (sym bytes) ∙ none)) over byte more is-more)))

    by_read : ReadThenWritten
    by_read = by (dec_lt x.done n)
      where
        rest : x.done ≡ n → Dec (x.done * r.p.size % r.q.size ≡ 0) → ReadThenWritten
        rest e (yes none) = full_copy e none
        rest e (no some) = short_copy e some

        by : Dec (x.done < n) → ReadThenWritten
        by (yes l) = stopped_copy l
        by (no l) = rest (omega (arith, is.most)) (ℕ_discrete (x.done * r.p.size % r.q.size) 0)

  pub copied_listwise : copied r n images ≡ copied_at_once r n images
  copied_listwise = by_read (read_all r n images) (is_read r n images fit)
