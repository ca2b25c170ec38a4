-- The end of a copy: nothing waits, or a last sector with zeros is stored.
use mathlib.Core.Path.{◌≡◌, refl, sym, ap, ◌∙◌}
use mathlib.Core.List.{List, []}
use Prim.Native.Nat.{ℕ, ◌+◌, ◌-◌, ◌*◌, ◌≤◌, ◌<◌}
use native.Mathlib.Omega.{arith}
use native.Mathlib.Nat.{mul-le-mul}
use native.Mathlib.Decide.{ℕ_discrete}
use borrow.Rule.Slice.PartMut.{put_mid}
use lib.ListN.{length, take, drop, replicate}
use Rattle.std.specs.Prelude.{Option, Some, None}
use Rattle.codes.specs.declared.Code.{Code}
use Rattle.codes.specs.Numbers.{number_of, code_number}
use Rattle.codes.proofs.Faults.{code_some}
use Rattle.copying.specs.Ends.{as_end}
use Rattle.pouring.specs.Promises.{last_fault}
use Rattle.geometry.specs.Params.{address_count, further}
use Rattle.sectors.specs.declared.transfer.Done.{Done}
use Rattle.sectors.specs.Transfer.{Transfer}
use Rattle.contents.proofs.Laws.{writing_most}
use Rattle.copying.specs.declared.route.Route.{Route}
use Rattle.copying.specs.declared.route.Copied.{Copied}
use Rattle.copying.specs.Ends.{Going, TargetFault}
use Rattle.copying.specs.Images.{image_of}
use Rattle.copying.specs.Copying.{Copying, filled, completed}
use Rattle.copying.proofs.Laws.{last_written, last_room, filled_long, Completion, completes, none_completed}
use Rattle.pouring.specs.declared.turn.Progress.{Progress}
use Rattle.pouring.specs.Promises.{WrittenOn, StoredBy, standing, Underway, ended_by, NoTurnLeft, CompletedTo}
use Rattle.pouring.proofs.Ends.{going_or_not}
use Rattle.pouring.proofs.Fronts.{zeros_behind}
use Rattle.pouring.proofs.Rooms.{times_some, held_long, stands_even}

module _ (r : Route) (s : Progress) (scratch : List ℕ) (images : List (List ℕ)) (h : NoTurnLeft r s scratch images) where
  abbrev u : Underway r h.count s scratch images
  u = h.under

  abbrev size : ℕ
  size = r.q.size

  abbrev x : List ℕ → Copying
  x last = standing s scratch images last

  -- ---- nothing waits
  pub none_waits : s.held ≡ 0 → CompletedTo r s scratch images (record { read = s.read; done = s.done; fault = s.fault }) images
  none_waits z last =
      rw (none_completed r (x last) (ap (λ (i : ℕ). take i scratch) z)) (record { read = refl; done = refl; end = refl; left = refl })

  -- ---- bytes wait
  module _ (some : s.held ≡ 0 → ⊥) where
    going : as_end s.fault ≡ Going
    going = by (going_or_not (as_end s.fault))
      where
        by : Dec (as_end s.fault ≡ Going) → as_end s.fault ≡ Going
        by (yes e) = e
        by (no e) = absurd (some (u.none e))

    waits : 0 < s.held
    waits = by (ℕ_discrete s.held 0)
      where
        by : Dec (s.held ≡ 0) → 0 < s.held
        by (yes e) = absurd (some e)
        by (no e) = omega arith

    even : s.read * r.p.size ≡ s.done * size + s.held
    even = u.even going

    pub last_on : r.b.0 + s.done + 1 ≤ address_count r.q
    last_on =
        let room = last_room r.p.size size h.count s.done s.held u.fitting.target_some (rw (h.all going) at even) waits in
        omega (arith, room, u.fitting.target_on)

    done_most : s.done ≤ 131072
    done_most =
        let all : s.read * r.p.size ≤ 131072 =
        mul-le-mul {n₂ = 256} {m₂ = 512} (omega (arith, h.all going, u.few)) u.fitting.source_fits.within.size_most in
        omega (arith, all, even, times_some s.done size u.fitting.target_some)

    module _ (zeroed : List ℕ) (zero : zeroed ≡ replicate (length (take (size - s.held) (drop s.held scratch))) 0) where
      abbrev given : List ℕ
      given = take (size - 0) (drop 0 (put_mid s.held (size - s.held) scratch zeroed))

      given_is : given ≡ filled size (take s.held scratch)
      given_is =
          zeros_behind s.held size scratch zeroed (omega (arith, u.short)) (omega (arith, u.scratch_long, u.fitting.target_fits.within.size_most)) zero

      pub last_given : 1 * size ≤ length given
      last_given = rw given_is (omega (arith, filled_long size (take s.held scratch)))

      module _ (target : Done) (left : List (List ℕ)) (stored : StoredBy r s.done 1 given images target left) where
        abbrev W : Transfer
        W = last_written r (x [])

        written : WrittenOn r.target W target images left
        written = rw given_is at stored

        pub done_few : s.done + target.sectors ≤ 131073
        done_few =
            let most : W.done ≤ 1 = writing_most r.q 1 (further r.b s.done) (image_of r.target images) (filled size (take s.held scratch)) in
            omega (arith, done_most, most, written.sectors)

        completion : (last : List ℕ) → Completion r (x last) (completed r (x last))
        completion last =
            completes r h.count (x last) u.fitting going (stands_even r h.count s scratch images u going last) (h.all going)
            (rw (held_long r h.count s scratch images u going) waits)

        copied : (c : Copied) → c.read ≡ s.read → c.done ≡ s.done + target.sectors → ((last : List ℕ) → (completed r (x last)).end ≡ as_end c.fault)
            → CompletedTo r s scratch images c left
        copied c er ed ee last =
            let k = completion last in
            record {
              read = er ∙ sym k.read;
              done = ed ∙ ap (λ (i : ℕ). s.done + i) written.sectors ∙ sym k.done;
              end = sym (ee last);
              left = written.images ∙ sym k.images;
            }

        by_fault : (fault : Option Code) → target.fault ≡ fault → (last : List ℕ) → (completed r (x last)).end ≡ as_end (Some (last_fault fault))
        by_fault None z last = (completion last).short (sym written.code ∙ ap code_number z)
        by_fault (Some code) z last =
            let coded : number_of code ≡ W.code = sym (ap code_number z) ∙ written.code in
            (completion last).target (λ e. code_some code (coded ∙ e)) ∙ ap TargetFault (sym coded)

        pub completed_to : (c : Copied) → c ≡ ended_by s target → CompletedTo r s scratch images c left
        completed_to c e = rw e (copied _ refl refl (by_fault target.fault refl))
