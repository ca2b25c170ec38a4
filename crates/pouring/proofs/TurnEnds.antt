-- A turn, put together: what is read, stored and left over is what the Copy's next source sectors leave.
use mathlib.Core.Path.{◌≡◌, refl, sym, ap, ◌∙◌}
use mathlib.Core.List.{List, []}
use Prim.Native.Nat.{ℕ, suc, ◌+◌, ◌-◌, ◌*◌, ◌/◌, ◌≤◌, ◌<◌}
use native.Mathlib.Omega.{arith}
use native.Mathlib.Nat.{div-mul-le_self, mul-le-mul_right}
use borrow.Rule.Slice.PartMut.{put_mid}
use lib.ListN.{length, take, drop, length-append}
use lib.Seq.{length-take-le}
use Rattle.std.specs.Prelude.{Option, Some, None}
use Rattle.codes.specs.declared.Code.{Code}
use Rattle.codes.specs.Numbers.{number_of, code_number}
use Rattle.codes.proofs.Faults.{code_some}
use Rattle.copying.specs.Ends.{as_end}
use Rattle.pouring.specs.Promises.{read_turn, written_turn}
use Rattle.base.specs.Part.{part, splice}
use Rattle.base.proofs.Parts.{length_part, length_splice}
use Rattle.geometry.specs.declared.params.Lba.{Lba}
use Rattle.geometry.specs.Params.{address_count, further}
use Rattle.sectors.specs.declared.transfer.Done.{Done}
use Rattle.sectors.specs.Transfer.{Transfer}
use Rattle.sectors.specs.Promises.{HasRead}
use Rattle.sectors.proofs.Laws.{Handed, reading_handed, front_lent}
use Rattle.contents.proofs.Laws.{writing_most}
use Rattle.copying.specs.declared.route.Route.{Route}
use Rattle.copying.specs.Ends.{Going, SourceFault, TargetFault}
use Rattle.copying.specs.Images.{image_of}
use Rattle.copying.specs.Copying.{Copying, copying}
use Rattle.copying.specs.Listwise.{filled_by}
use Rattle.copying.proofs.Laws.{turn_read, turn_bytes, turn_full, turn_written, Turn, turn_room, turned}
use Rattle.pouring.specs.declared.turn.Progress.{Progress}
use Rattle.pouring.specs.Promises.{WrittenOn, StoredBy, turn_most, scratch_length, standing, Underway, after_turn, TurnedTo}
use Rattle.pouring.proofs.Ends.{source_ended, target_ended}
use Rattle.pouring.proofs.Fronts.{put_behind, left_over}
use Rattle.pouring.proofs.Rooms.{held_long, stands_even, stands_short, in_turn, turn_fits, read_fits}

module _ (r : Route) (n : ℕ) (s : Progress) (scratch : List ℕ) (images : List (List ℕ)) (u : Underway r n s scratch images)
    (going : as_end s.fault ≡ Going) (l : s.read < n) (m : ℕ) (hm : (1 ≤ m) × (m ≤ n - s.read) × (m * r.p.size ≤ turn_most)) where
  abbrev x : List ℕ → Copying
  x last = standing s scratch images last

  -- what the turn leaves, whatever was written last
  turn_of : (last : List ℕ) → Turn r n (x last) m (copying r m (x last))
  turn_of last =
      turned r n (x last) u.fitting going (stands_even r n s scratch images u going last) (stands_short r n s scratch images u going)
      m (in_turn r n s scratch images u going m hm l)

  abbrev S : Transfer
  S = turn_read r (x []) m

  abbrev bytes : List ℕ
  bytes = turn_bytes r (x []) m

  abbrev W : Transfer
  W = turn_written r (x []) m

  abbrev size : ℕ
  size = r.q.size

  -- ---- read
  module _ (a : Lba) (ea : a ≡ further r.a s.read) (source : Done) (got : List ℕ)
      (has : HasRead r.p m a (image_of r.source images) source (take (s.held + m * r.p.size - s.held) (drop s.held scratch)) got) where
    abbrev filled : ℕ
    filled = s.held + source.sectors * r.p.size

    abbrev scratch₁ : List ℕ
    scratch₁ = put_mid s.held (s.held + m * r.p.size - s.held) scratch got

    is : HasRead r.p m (further r.a s.read) (image_of r.source images) source (take (s.held + m * r.p.size - s.held) (drop s.held scratch)) got
    is = rw ea at has

    handed : Handed r.p m (image_of r.source images) S
    handed =
        reading_handed r.p _ u.fitting.source_fits m (further r.a s.read)
        (omega (arith, in_turn r n s scratch images u going m hm l, u.fitting.source_on))

    pub read_most : source.sectors ≤ m
    read_most = rw is.sectors handed.most

    long : length S.handed ≡ source.sectors * r.p.size
    long = handed.long ∙ ap (λ (c : ℕ). c * r.p.size) (sym is.sectors)

    room : s.held + m * r.p.size ≤ length scratch
    room = omega (arith, turn_fits r n s scratch images u going m hm l, u.scratch_long)

    few : length S.handed ≤ m * r.p.size
    few = omega (arith, handed.long, mul-le-mul_right r.p.size handed.most)

    pub lent_long : length scratch₁ ≡ scratch_length
    lent_long =
        ap length (front_lent s.held (m * r.p.size) (s.held + m * r.p.size) S.handed scratch got refl room few is.area)
        ∙ length_splice s.held S.handed scratch (omega (arith, room, few)) ∙ u.scratch_long

    -- the bytes at the scratch's front
    front : take filled scratch₁ ≡ bytes
    front = put_behind s.held (m * r.p.size) filled S.handed scratch got room few (omega (arith, long)) is.area

    abbrev given : List ℕ
    given = take (filled - 0) (drop 0 scratch₁)

    given_is : given ≡ bytes
    given_is = let e : filled - 0 ≡ filled = omega arith in ap (λ (i : ℕ). take i scratch₁) e ∙ front

    count : filled ≡ length bytes
    count = omega (arith, long, length-append (take s.held scratch) S.handed, held_long r n s scratch images u going)

    full : filled / size ≡ turn_full r (x []) m
    full = ap (λ (i : ℕ). i / size) count

    pub stores_given : filled / size * size ≤ length given
    stores_given = rw given_is (omega (arith, count, div-mul-le_self filled size))

    pub stores_on : r.b.0 + s.done + filled / size ≤ address_count r.q
    stores_on =
        let room = turn_room r n (x []) u.fitting going (stands_even r n s scratch images u going []) (stands_short r n s scratch images u going)
        m (in_turn r n s scratch images u going m hm l) in
        omega (arith, room, full, u.fitting.target_on)

    -- ---- stored
    module _ (target : Done) (left : List (List ℕ)) (stored : StoredBy r s.done (filled / size) given images target left) where
      written : WrittenOn r.target W target images left
      written = rw (given_is, full) at stored

      pub stored_most : target.sectors ≤ filled / size
      stored_most = rw full (rw written.sectors (writing_most r.q (turn_full r (x []) m) (further r.b s.done) (image_of r.target images) bytes))

      -- ---- moved to the front
      abbrev used : ℕ
      used = filled / size * size

      module _ (scratched : List ℕ) (moved : scratched ≡ splice 0 (part used (filled - used) scratch₁) scratch₁) where
        fits : filled ≤ length scratch₁
        fits = omega (arith, lent_long, read_fits r n s scratch images u going m hm l source.sectors read_most)

        pub moved_long : length scratched ≡ scratch_length
        moved_long =
            let within : used + (filled - used) ≤ length scratch₁ = omega (arith, fits, div-mul-le_self filled size) in
            let few : 0 + length (part used (filled - used) scratch₁) ≤ length scratch₁ =
            omega (arith, length_part used (filled - used) scratch₁ within, fits) in
            ap length moved ∙ length_splice 0 (part used (filled - used) scratch₁) scratch₁ few ∙ lent_long

        rest_is : take (filled - used) scratched ≡ drop (turn_full r (x []) m * size) bytes
        rest_is =
            left_over used filled scratch₁ scratched (div-mul-le_self filled size) fits moved
            ∙ ap (drop used) front ∙ ap (λ (i : ℕ). drop (i * size) bytes) full

        -- the turn has come to t
        stood : (t : Progress) → t.held < size → ((as_end t.fault ≡ Going → ⊥) → t.held ≡ 0)
            → (as_end t.fault ≡ Going → (t.read ≡ s.read + m) × (t.read * r.p.size ≡ t.done * size + t.held)) → t.done ≡ s.done + target.sectors
            → ((last : List ℕ) → ((copying r m (x last)).read ≡ t.read) × ((copying r m (x last)).end ≡ as_end t.fault) × ((copying r m (x last)).rest ≡ take t.held scratched))
            → TurnedTo r n s scratch images t scratched left
        stood t short none even done fields =
            let images_are : (last : List ℕ) → (copying r m (x last)).images ≡ left = λ last. (turn_of last).images ∙ sym written.images in
            record {
              count = m;
              some = hm.0;
              most = in_turn r n s scratch images u going m hm l;
              counted = λ e. (even e).0;
              under = record {
                source_there = u.source_there;
                target_there = u.target_there;
                few = u.few;
                fitting = rw (images_are []) at (turn_of []).fitting;
                most = λ e. omega (arith, (even e).0, in_turn r n s scratch images u going m hm l);
                even = λ e. (even e).1;
                short = short;
                none = none;
                scratch_long = moved_long;
              };
              on = λ last.
                  let dones : (copying r m (x last)).done ≡ t.done = (turn_of last).done ∙ omega (arith, done, written.sectors) in
                  let is-left = images_are last in
                  let is_read = (fields last).0 in
                  let is-end = (fields last).1 in
                  let is-rest = (fields last).2 in
                  record {
                    last = (copying r m (x last)).last;
                    is = λ i. record {
                      read = is_read i;
                      done = dones i;
                      rest = is-rest i;
                      last = (copying r m (x last)).last;
                      images = is-left i;
                      end = is-end i;
                    };
                  };
            }

        abbrev To : Progress → Type 0
        To t = TurnedTo r n s scratch images t scratched left

        -- a destination fault
        at_target : (code : Code) → target.fault ≡ Some code → To (written_turn r s source target (filled - used) (Some code))
        at_target code failed =
            let coded : number_of code ≡ W.code = sym (ap code_number failed) ∙ written.code in
            stood _ u.fitting.target_some (λ z. refl) (λ z. absurd (target_ended (number_of code) z)) refl
            (λ last.
            let t = (turn_of last).target (λ z. code_some code (coded ∙ z)) in
            let dones : suc (copying r m (x last)).done ≡ s.done + target.sectors + 1 = omega (arith, (turn_of last).done, written.sectors) in (
              t.2 ∙ ap (λ (i : ℕ). filled_by i size r.p.size) dones,
              t.0 ∙ ap TargetFault (sym coded),
              t.1,
            ))

        module _ (good : target.fault ≡ None) where
          wrote_all : W.code ≡ 0
          wrote_all = sym written.code ∙ ap code_number good

          -- a source fault
          at_source : (code : Code) → source.fault ≡ Some code → To (read_turn s source target (filled - used) (Some code))
          at_source code failed =
              let coded : number_of code ≡ S.code = sym (ap code_number failed) ∙ is.code in
              stood _ u.fitting.target_some (λ z. refl) (λ z. absurd (source_ended (number_of code) z)) refl
              (λ last.
              let t = (turn_of last).source wrote_all (λ z. code_some code (coded ∙ z)) in (
                t.2 ∙ omega (arith, is.sectors),
                t.0 ∙ ap SourceFault (sym coded),
                t.1,
              ))

          -- none
          at_none : source.fault ≡ None → To (read_turn s source target (filled - used) None)
          at_none fine =
              let read_all_lem : S.code ≡ 0 = sym is.code ∙ ap code_number fine in
              let whole_turn : source.sectors ≡ m = is.sectors ∙ handed.all read_all_lem in
              let t = (turn_of []).even wrote_all read_all_lem in
              let y = copying r m (x []) in
              let rest : y.rest ≡ take (filled - used) scratched = ((turn_of []).whole wrote_all read_all_lem).1 ∙ sym rest_is in
              let waits : length y.rest ≡ filled - used = ap length rest ∙ length-take-le (filled - used) scratched (omega (arith, fits, lent_long, moved_long)) in
              let reads : y.read ≡ s.read + source.sectors = ((turn_of []).whole wrote_all read_all_lem).2 ∙ omega (arith, whole_turn) in
              let dones : y.done ≡ s.done + target.sectors = (turn_of []).done ∙ omega (arith, written.sectors) in
              let evens : (s.read + source.sectors) * r.p.size ≡ (s.done + target.sectors) * size + (filled - used) =
              rw (reads, dones, waits) at t.0 in
              stood _ (rw waits at t.1) (λ z. absurd (z refl)) (λ z. (omega (arith, whole_turn), evens)) refl
              (λ last.
              let w = (turn_of last).whole wrote_all read_all_lem in (w.2 ∙ omega (arith, whole_turn), w.0, w.1 ∙ sym rest_is))

          by_source : (fault : Option Code) → source.fault ≡ fault → To (read_turn s source target (filled - used) fault)
          by_source None e = at_none e
          by_source (Some code) e = at_source code e

        by_target : (fault : Option Code) → target.fault ≡ fault → To (written_turn r s source target (filled - used) fault)
        by_target None e = by_source e source.fault refl
        by_target (Some code) e = at_target code e

        pub turned_to : (t : Progress) → t ≡ after_turn r s source target (filled - used) → To t
        turned_to t e = rw e (by_target target.fault refl)
