-- Laws of the check of a track's ID bytes.
use mathlib.Core.Path.{◌≡◌, refl, sym, ap, ◌∙◌}
use mathlib.Core.Bool.{Bool, true, false, true≢false}
use mathlib.Core.List.{List}
use Prim.Native.Nat.{ℕ, ◌+◌, ◌*◌, ◌≤◌, ◌<◌}
use native.Mathlib.Omega.{arith}
use lib.ListN.{length, get_or}
use lib.Dec.{eqb}
use borrow.Author.Count.{below_more}
use borrow.Author.Tests.{eq-eqb, ne_eqb}
use Rattle.base.specs.Pick.{pick}
use Rattle.base.specs.Part.{part}
use Rattle.base.specs.First.{every_below}
use Rattle.base.proofs.Decide.{pick_true, pick-false}
use Rattle.base.proofs.Parts.{length_part, cell_in}
use Rattle.base.proofs.Firsts.{every_true, every_at}
use Rattle.geometry.specs.declared.params.Params.{Params}
use Rattle.geometry.specs.declared.params.Track.{Track}
use Rattle.geometry.specs.Params.{slot_size, track_size}
use Rattle.track.specs.declared.id.Id.{Id}
use Rattle.track.specs.declared.state.State.{State}
use Rattle.track.specs.Find.{Where}
use Rattle.track.specs.Find.{On, Off}
use Rattle.track.specs.Id.{id_bytes, id_for, with_sector}
use Rattle.track.specs.State.{partner_of}
use Rattle.track.specs.Image.{track_bytes, slot_id}
use Rattle.track.specs.Find.{where_of}
use Rattle.track.proofs.Laws.{id_length}
use Rattle.formatter.specs.Number.{number_of}
use Rattle.formatter.specs.Check.{id_is, ids_are, home_state, checked_on, check_code}
use Rattle.formatter.proofs.Numbers.{Low, low_of, same_number, Narrow, low_id, number_id, id_fits}

-- ---- what the comparison goes by: `first` is the number of the ID for sector 0
pub record Known (p : Params) (id : Id) (map bytes : List ℕ) (first : ℕ) : Type 0 where
  pub number : first ≡ number_of (id_bytes id)
  pub long : length bytes ≡ track_size p
  pub many : length map ≡ p.sectors
  pub zeroth : id.sector ≡ 0
  pub narrow : Narrow id
  pub sectors : (k : ℕ) → get_or map k 0 < 256

module _ (p : Params) (id : Id) (map bytes : List ℕ) (first : ℕ) (w : Known p id map bytes first) where
  -- the number compared with is that of the ID that a format writes in slot k, which 64 bits hold
  right_number : (k : ℕ) → first + get_or map k 0 * 0x1000000 ≡ number_of (id_bytes (with_sector id (get_or map k 0)))
  right_number k = ap (λ (n : ℕ). n + get_or map k 0 * 0x1000000) w.number ∙ sym (number_id id (get_or map k 0) w.zeroth)

  right_fits : (k : ℕ) → first + get_or map k 0 * 0x1000000 < 0x10000000000000000
  right_fits k = rw (right_number k) (id_fits id (get_or map k 0) w.narrow (w.sectors k))

  -- the ID bytes are right exactly where the number is
  id_number : (k : ℕ) → k < length map → Low (slot_id p k bytes) → id_is p id map bytes k ≡ eqb (number_of (slot_id p k bytes)) (first + get_or map k 0 * 0x1000000)
  unfolding id_is slot_id
  id_number k h low =
      let s = get_or map k 0 in
      let at = k * slot_size p in
      let room = cell_in (slot_size p) k p.sectors (omega (arith, w.many)) in
      let long : length (part at 8 bytes) ≡ length (id_bytes (with_sector id s)) =
      length_part at 8 bytes (omega (arith, w.long, room)) ∙ sym (id_length (with_sector id s)) in
      rw (right_number k) (same_number (part at 8 bytes) (id_bytes (with_sector id s)) long low (low_id id s w.narrow (w.sectors k)))

-- where one fails, not every one passes
every_off : (test : ℕ → Bool) (n i : ℕ) → i < n → test i ≡ false → every_below test n ≡ false
every_off test n i h e = by _ refl
  where
    by : (all : Bool) → every_below test n ≡ all → every_below test n ≡ false
    by true q = absurd (true≢false (sym (every_at test n q i h) ∙ e))
    by false q = q

-- ---- the loop: the slots below k have the right IDs
pub record Right (p : Params) (id : Id) (map bytes : List ℕ) (first k : ℕ) : Type 0 where
  pub known : Known p id map bytes first
  pub all : (i : ℕ) → i < k → id_is p id map bytes i ≡ true

module _ (p : Params) (id : Id) (map bytes : List ℕ) (first : ℕ) where
  pub right_none : Known p id map bytes first → Right p id map bytes first 0
  right_none w = record { known = w; all = λ i h. absurd (omega arith) }

  module _ (k : ℕ) (r : Right p id map bytes first k) where
    -- 64 bits hold what the slot's number is compared with
    pub right_small : first + get_or map k 0 * 0x1000000 < 0x10000000000000000
    right_small = right_fits p id map bytes first r.known k

    -- slot k is looked at
    module _ (h : k < length map) (lent : List ℕ) (el : lent ≡ slot_id p k bytes) (n : ℕ) (e : n ≡ number_of lent) (low : (i : ℕ) → get_or lent i 0 < 256) where
      here : id_is p id map bytes k ≡ eqb n (first + get_or map k 0 * 0x1000000)
      here =
          let z : n ≡ number_of (slot_id p k bytes) = e ∙ ap number_of el in
          rw z (id_number p id map bytes first r.known k h (rw el at (low_of lent low)))

      pub right_more : n ≡ first + get_or map k 0 * 0x1000000 → Right p id map bytes first (k + 1)
      right_more q = record { known = r.known; all = below_more _ k r.all (here ∙ eq-eqb _ _ q) }

      pub right_miss : (n ≡ first + get_or map k 0 * 0x1000000 → ⊥) → false ≡ ids_are p id map bytes
      unfolding ids_are
      right_miss ne = sym (every_off (id_is p id map bytes) (length map) k h (here ∙ ne_eqb _ _ ne))

    pub right_all : length map ≤ k → true ≡ ids_are p id map bytes
    unfolding ids_are
    right_all h = sym (every_true (id_is p id map bytes) (length map) (λ i l. r.all i (omega arith)))

-- ---- the check, by where t's sectors are
pick_partner : (b : Bool) (x y : State) (m : ℕ) → (partner_of x).0 < m → (partner_of y).0 < m → (partner_of (pick b x y)).0 < m
unfolding pick
pick_partner true x y m hx hy = hx
pick_partner false x y m hx hy = hy

pub home_partner : (p : Params) (t u : Track) (state : State) (id : Id) (m : ℕ) → t.0 < m → state ≡ home_state t u → id ≡ id_for p u state 0 → id.partner.0 < m
unfolding home_state id_for partner_of
home_partner p t u state id m h es ei = rw (ei, es) (pick_partner _ _ _ m (omega arith) h)

-- the ID is for sector 0
pub home_sector : (p : Params) (u : Track) (state : State) (id : Id) → id ≡ id_for p u state 0 → id.sector ≡ 0
unfolding id_for
home_sector p u state id e = ap (λ (i : Id). i.sector) e

module _ (p : Params) (t : Track) (map image : List ℕ) (w : Where) (ew : w ≡ where_of p t image) where
  pub check_off : (code : ℕ) → w ≡ Off code → code ≡ check_code p t map image
  unfolding check_code checked_on
  check_off code e = rw (sym ew ∙ e)

  module _ (u : Track) (e : w ≡ On u) (state : State) (id : Id) (is : Bool) (eh : state ≡ home_state t u) (ei : id ≡ id_for p u state 0)
      (ea : is ≡ ids_are p id map (track_bytes p u image)) where
    compared : ids_are p (id_for p u (home_state t u) 0) map (track_bytes p u image) ≡ is
    compared = rw (← eh, ← ei) (sym ea)

    pub check_well : is ≡ true → 0 ≡ check_code p t map image
    unfolding check_code checked_on
    check_well r = rw (sym ew ∙ e) (sym (pick_true _ _ _ (compared ∙ r)))

    pub check_ill : is ≡ false → 0x1A ≡ check_code p t map image
    unfolding check_code checked_on
    check_ill r = rw (sym ew ∙ e) (sym (pick-false _ _ _ (compared ∙ r)))
