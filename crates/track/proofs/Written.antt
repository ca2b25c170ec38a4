-- A track whose slot 0 has the ID that a format writes: its state, where the search for its sectors goes on, whose it is.
use mathlib.Core.Path.{◌≡◌, refl, ap, ◌∙◌}
use mathlib.Core.Bool.{Bool, true, ◌&&◌}
use mathlib.Core.List.{List}
use Prim.Native.Nat.{ℕ, ◌<◌}
use lib.Dec.{eqb}
use borrow.Author.Tests.{eq-eqb, lt-ltb}
use Rattle.base.specs.Pick.{pick}
use Rattle.geometry.specs.declared.params.Params.{Params}
use Rattle.geometry.specs.declared.params.Track.{Track}
use Rattle.geometry.specs.Params.{track_count}
use Rattle.track.specs.declared.id.Id.{Id}
use Rattle.track.specs.declared.state.State.{State}
use Rattle.track.specs.declared.state.State.TheVariants.{Sound, Bad, Moved, Taken}
use Rattle.track.specs.Find.{On, Off}
use Rattle.track.specs.Id.{id_bytes, id_for}
use Rattle.track.specs.State.{flag_of, partner_of}
use Rattle.track.specs.Image.{slot_id, first_id}
use Rattle.track.specs.Find.{taken_by, where_by, where_of, holds}
use Rattle.track.specs.Pair.{state_by, state_of}
use Rattle.track.proofs.Ids.{id_back, own_for}

-- ---- the state that the format commands see is the one written
state_by_lem : (p : Params) (t : Track) (state : State) (s : ℕ) → state_by (id_for p t state s) true ≡ state
unfolding state_by id_for flag_of partner_of pick
state_by_lem p t Sound s = refl
state_by_lem p t Bad s = refl
state_by_lem p t (Moved u) s = refl
state_by_lem p t (Taken u) s = refl

pub state_written : (p : Params) (t : Track) (state : State) (s : ℕ) (image : List ℕ) → first_id p t image ≡ id_for p t state s → state_of p t image ≡ state
unfolding state_of
state_written p t state s image e = rw (e, own_for p t state s) (state_by_lem p t state s)

-- ---- where the search goes on
module _ (p : Params) (t : Track) (s : ℕ) (taken : Bool) where
  by_sound : where_by t (id_for p t Sound s) true taken ≡ On t
  unfolding where_by id_for flag_of pick
  by_sound = refl

  by_bad : where_by t (id_for p t Bad s) true taken ≡ Off 0x19
  unfolding where_by id_for flag_of pick
  by_bad = refl

  by_taken : (u : Track) → where_by t (id_for p t (Taken u) s) true taken ≡ Off 0x1C
  unfolding where_by id_for flag_of pick
  by_taken u = refl

  by_moved : (u : Track) → taken ≡ true → where_by t (id_for p t (Moved u) s) true taken ≡ On u
  unfolding where_by id_for flag_of partner_of pick
  by_moved u e = rw e

taken_for : (p : Params) (t u : Track) (s : ℕ) → u.0 < track_count p → taken_by p t u (id_for p u (Taken t) s) ≡ true
unfolding taken_by id_for flag_of partner_of
taken_for p t u s h = rw (lt-ltb u.0 (track_count p) h, own_for p u (Taken t) s, eq-eqb t.0 t.0 refl)

partner_taken : (p : Params) (t u : Track) (s : ℕ) (ids : Track → Id) → taken_by p t u (ids u) ≡ true
    → taken_by p t (id_for p t (Moved u) s).partner (ids (id_for p t (Moved u) s).partner) ≡ true
unfolding id_for partner_of
partner_taken p t u s ids e = e

module _ (p : Params) (t : Track) (s : ℕ) (image : List ℕ) where
  pub sound_written : first_id p t image ≡ id_for p t Sound s → where_of p t image ≡ On t
  unfolding where_of
  sound_written e = rw (e, own_for p t Sound s) (by_sound p t s _)

  pub bad_written : first_id p t image ≡ id_for p t Bad s → where_of p t image ≡ Off 0x19
  unfolding where_of
  bad_written e = rw (e, own_for p t Bad s) (by_bad p t s _)

  pub taken_written : (u : Track) → first_id p t image ≡ id_for p t (Taken u) s → where_of p t image ≡ Off 0x1C
  unfolding where_of
  taken_written u e = rw (e, own_for p t (Taken u) s) (by_taken p t s _ u)

  -- on the partner that is taken by t
  pub moved_written : (u : Track) (r : ℕ) → u.0 < track_count p → first_id p t image ≡ id_for p t (Moved u) s → first_id p u image ≡ id_for p u (Taken t) r
      → where_of p t image ≡ On u
  unfolding where_of
  moved_written u r hu e e' =
      rw (e, own_for p t (Moved u) s)
      (by_moved p t s _ u (partner_taken p t u s (λ v. first_id p v image) (ap (taken_by p t u) e' ∙ taken_for p t u r hu)))

-- ---- the sector that a slot with such an ID holds
its_sector : (p : Params) (t : Track) (state : State) (x s : ℕ) → (eqb (id_for p t state x).mark 0xA1 && eqb (id_for p t state x).sector s) ≡ eqb x s
unfolding id_for
its_sector p t state x s = refl

pub holds_written : (p : Params) (t : Track) (state : State) (r s : ℕ) (bytes : List ℕ) (k : ℕ) → slot_id p k bytes ≡ id_bytes (id_for p t state r)
    → holds p s bytes k ≡ eqb r s
unfolding holds
holds_written p t state r s bytes k e = rw (e, id_back (id_for p t state r)) (its_sector p t state r s)
