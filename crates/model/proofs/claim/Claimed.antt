-- The claim is proved: fresh, engine and machine agree, and each call keeps that.
use Prim.Native.Nat.{ℕ, ◌≤◌, ◌<◌}
use mathlib.Core.Path.{◌≡◌, refl, sym, ap, ap₂, ◌∙◌}
use mathlib.Core.Bool.{true, false≢true}
use mathlib.Core.Option.{Option, some}
use mathlib.Core.List.{List, [], ◌∷◌, map}
use native.Mathlib.Omega.{arith}
use native.Mathlib.Decide.{dec_lt}
use lib.ListN.{length}
use Rattle.base.specs.Pick.{pick}
use Rattle.geometry.specs.declared.params.Lba.{Lba}
use Rattle.geometry.specs.declared.params.Track.{Track}
use Rattle.geometry.specs.declared.params.Params.{Params}
use Rattle.geometry.specs.declared.medium.Medium.{Medium}
use Rattle.std.specs.Prelude.{Some}
use Rattle.geometry.specs.Params.{Within, track_count, track_of, sector_of, OnDrive}
use Rattle.geometry.specs.Medium.{medium_of}
use Rattle.geometry.specs.Config.{setting_of}
use Rattle.geometry.proofs.Settings.{setting_within}
use Rattle.geometry.proofs.Addresses.{track_of_drive}
use Rattle.track.specs.Image.{track_bytes, slot_data}
use Rattle.track.specs.Find.{Slot}
use Rattle.track.specs.Find.{sector_found}
use Rattle.model.specs.Verdicts.{Faulty, Passed}
use Rattle.model.specs.Feed.{Reply}
use Rattle.model.specs.Checks.{judged}
use Rattle.model.specs.Engine.{image_of}
use Rattle.model.specs.Machine.{Kind, stateless, sound, bad, moved, taken, Disk, Machine, denied, is_bad, is_taken, step}
use Rattle.model.specs.Claim.{replies, at_end, System, Call, fed, called, engine_replies, engine_at_end, begin, begin_machine, is_held, Holds, Claim}
use Rattle.model.proofs.claim.Finding.{Found, goes, stops, found_by}
use Rattle.model.proofs.claim.Agrees.{Stored, nothing, something, Agrees}
use Rattle.model.proofs.claim.Restarted.{agree_fresh}
use Rattle.model.proofs.claim.Called.{call_answered}

-- ---- what is held is found
pub held_passed : (kind : Kind) (a : Lba) → is_held kind ≡ true → judged (denied kind a) ≡ Passed
unfolding is_held judged denied is_bad is_taken pick
held_passed stateless a e = absurd (false≢true e)
held_passed sound a e = refl
held_passed bad a e = absurd (false≢true e)
held_passed (moved u) a e = refl
held_passed (taken u) a e = absurd (false≢true e)

module _ (p : Params) (u : Disk) (image : List ℕ) (a : Lba) (held : is_held (u.kind (track_of p a)) ≡ true) where
  found_held : Found p u.kind u.inter u.held image a
      → (t : Track) × (k : ℕ) × (sector_found p (track_of p a) (sector_of p a) image ≡ Slot t k) × (slot_data p k (track_bytes p t image) ≡ u.held a)
  found_held (goes h passed is bytes) = (_, _, is, bytes)
  found_held (stops code fails fault is) =
      let both : Passed ≡ Faulty code a = sym (held_passed (u.kind (track_of p a)) a held) ∙ fault in
      absurd (let z : ◌≡◌ {A = ℕ} 0 1 = cc in omega arith)

-- tracks past the last have no state, so what is held is on the drive
held_inside : (p : Params) → Within p → (kind : Track → Kind) → ((t : Track) → track_count p ≤ t.0 → kind t ≡ stateless)
    → (a : Lba) → is_held (kind (track_of p a)) ≡ true → OnDrive p a
unfolding is_held
held_inside p w kind past a held = by (dec_lt (track_of p a).0 (track_count p))
  where
    by : Dec ((track_of p a).0 < track_count p) → OnDrive p a
    by (yes h) = track_of_drive p w a h
    by (no h) = absurd (false≢true (sym (ap is_held (past (track_of p a) (omega (arith, h)))) ∙ held))

stored_holds : (medium : Medium) (u : Disk) (image : List ℕ) {o : Option (List ℕ)} → Stored medium u image o → (config : List ℕ) → o ≡ some config
    → (p : Params) × (setting_of medium config (length image) ≡ Some p)
    × ((a : Lba) → is_held (u.kind (track_of p a)) ≡ true
    → (t : Track) × (k : ℕ) × (sector_found p (track_of p a) (sector_of p a) image ≡ Slot t k)
    × (slot_data p k (track_bytes p t image) ≡ u.held a))
stored_holds medium u image (nothing i) config e = absurd (let z : ◌≡◌ {A = ℕ} 0 1 = cc in omega arith)
stored_holds medium u image (something before p s l i mirror) config e =
    let same : config ≡ before = cc in
    let w = setting_within medium before (length image) p s in (
      p,
      ap (λ (k : List ℕ). setting_of medium k (length image)) same ∙ s,
      λ a held.
          found_held p u image a held
          (found_by p w.0 u.kind u.inter u.held image w.1 mirror a (held_inside p w.0 u.kind mirror.past a held)),
    )

-- ---- call by call
run_follows : (calls : List Call) (s : System) (m : Machine) → Agrees s.controller (λ d. image_of d s.images) m
    → (engine_replies s calls ≡ replies m (map fed calls))
    × ((drive : ℕ) → drive < 4 → Holds (medium_of drive) ((at_end m (map fed calls)).disks drive) (image_of drive (engine_at_end s calls).images))
unfolding engine_replies engine_at_end replies at_end Holds
run_follows [] s m agree = (refl, λ drive h. stored_holds _ _ _ (agree.drives drive h).drive.stored)
run_follows (call ∷ calls) s m agree =
    let now = call_answered s call m agree in
    let later = run_follows calls (called s call).1 (step m (fed call)).1 now.agree in
    (ap₂ {C = List Reply} (λ reply answers. reply ∷ answers) now.same later.0, later.1)

pub claimed : Claim
unfolding Claim begin
claimed images none calls = run_follows calls _ (begin_machine images) (agree_fresh images none)
