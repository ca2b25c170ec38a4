-- Laws of the slots noted for a track's sectors: the loop that looks for one without, and what they say of the code and of each sector.
use mathlib.Core.Path.{◌≡◌, refl, sym, ap, ◌∙◌}
use mathlib.Core.Bool.{Bool, true, false, not, true≢false}
use mathlib.Core.Logic.{◌⊎◌, inl, inr}
use mathlib.Core.List.{List}
use Prim.Native.Nat.{ℕ, ◌+◌, ◌≤◌, ◌<◌}
use native.Mathlib.Omega.{arith}
use lib.ListN.{length, get_or, replicate, length-replicate, get_or-replicate}
use Rattle.std.specs.Option.{is_some, unwrap_or}
use Rattle.std.specs.declared.option.Option.TheVariants.{None, Some}
use Rattle.base.specs.Pick.{pick}
use Rattle.base.specs.First.{first_from, first_below, every_below}
use Rattle.base.proofs.Decide.{pick_true, pick-false}
use Rattle.base.proofs.Firsts.{Sought, sought_hit, sought_more, sought_all, some_hit, every_none, every_true, every_at}
use Rattle.geometry.specs.declared.params.Params.{Params}
use Rattle.geometry.specs.declared.params.Track.{Track}
use Rattle.geometry.specs.Params.{Within}
use Rattle.track.specs.Find.{Where}
use Rattle.track.specs.Find.{On, Off}
use Rattle.track.specs.Find.{Slot}
use Rattle.track.specs.Image.{track_bytes}
use Rattle.track.specs.Find.{where_of, sector_in, sector_found}
use Rattle.track.specs.Search.{Note, note_of, Noted}
use Rattle.track.proofs.Laws.{sector_on, Found, slot_none, slot_some, noted_all}
use Rattle.contents.specs.Content.{content_at}
use Rattle.keeping.specs.Keep.{code_of, keep_code, Located}
use Rattle.keeping.proofs.Reading.{content_none, content_slot}
use Rattle.keeping.proofs.Missing.{missing_code, none_missing, missing_none, missing_one, missing_off, off_some}

-- ---- the look for a sector without a slot
abbrev pub has : (slots : List Note) → (s : ℕ) → Bool
has slots s = is_some (get_or slots s None)

module _ (slots : List Note) (n s : ℕ) (w : Sought (λ s. not (has slots s)) n s) where
  -- sector s has none
  pub has_miss : s < n → has slots s ≡ false → ◌≡◌ {A = ℕ} 0x14 (pick (every_below (has slots) n) 0 0x14)
  unfolding every_below
  has_miss l e =
      let hit : not (has slots s) ≡ true = ap not e in
      sym (pick-false _ _ _ (ap not (some_hit (λ s. not (has slots s)) n s (sought_hit _ n s w l hit))))

  -- it has one
  pub has_more : s < n → has slots s ≡ true → Sought (λ s. not (has slots s)) n (s + 1)
  has_more l e = sought_more _ n s w l (ap not e)

  -- each has one
  pub has_all : n ≤ s → ◌≡◌ {A = ℕ} 0 (pick (every_below (has slots) n) 0 0x14)
  has_all l = sym (pick_true _ _ _ (every_none (has slots) n (sought_all _ n s w l)))

-- ---- the loop that notes each slot
-- before a slot is looked at none is noted
module _ (slots : List Note) (e : slots ≡ replicate 32 None) where
  pub none_length : length slots ≡ 32
  none_length = ap length e ∙ length-replicate {A = Note} 32 None

  pub none_noted : (p : Params) (bytes : List ℕ) → Noted p bytes slots 0
  unfolding Noted note_of first_below first_from
  none_noted p bytes s h = ap (λ (l : List Note). get_or l s None) e ∙ get_or-replicate 32 s None None h

-- ---- every slot is noted of the track where the search goes on
module _ (p : Params) (t u : Track) (slots : List Note) (image : List ℕ) (within : Within p) (on : where_of p t image ≡ On u) (long : length slots ≡ 32)
    (notes : Noted p (track_bytes p u image) slots p.sectors) where
  module _ (s : ℕ) (h : s < p.sectors) where
    found : Found p (track_bytes p u image) slots p.sectors s
    found = (long, omega arith, notes, noted_all p (track_bytes p u image) slots p.sectors notes s (omega (arith, within.sectors_most)) refl)

    unnoted : get_or slots s None ≡ None → code_of (content_at p t s image) ≡ 0x14
    unnoted e = missing_code _ 0x14 (content_none p t u s image on (slot_none p (track_bytes p u image) slots p.sectors s found e))

    noted_slot : (k : ℕ) → get_or slots s None ≡ Some k → sector_found p t s image ≡ Slot u k
    unfolding sector_in
    noted_slot k e = sector_on p t s image u on ∙ ap (sector_in u) (slot_some p (track_bytes p u image) slots p.sectors s found k e)

    noted_bytes : (k : ℕ) → get_or slots s None ≡ Some k → code_of (content_at p t s image) ≡ 0
    unfolding code_of
    noted_bytes k e = rw (content_slot p t u s k image (noted_slot k e))

    either : (code_of (content_at p t s image) ≡ 0) ⊎ (code_of (content_at p t s image) ≡ 0x14)
    either = by (get_or slots s None) refl
      where
        by : (o : Note) → get_or slots s None ≡ o → (code_of (content_at p t s image) ≡ 0) ⊎ (code_of (content_at p t s image) ≡ 0x14)
        by None e = inr (unnoted e)
        by (Some k) e = inl (noted_bytes k e)

    -- with code 0 one is noted
    coded : keep_code p t image ≡ 0 → (k : ℕ) × (get_or slots s None ≡ Some k)
    coded z = by (get_or slots s None) refl
      where
        by : (o : Note) → get_or slots s None ≡ o → (k : ℕ) × (get_or slots s None ≡ Some k)
        by None e = absurd (omega (arith, unnoted e, none_missing p t image z s h))
        by (Some k) e = (k, e)

    -- and the other way
    noted_well : has slots s ≡ true → code_of (content_at p t s image) ≡ 0
    noted_well e = by (get_or slots s None) refl
      where
        by : (o : Note) → get_or slots s None ≡ o → code_of (content_at p t s image) ≡ 0
        by None q = absurd (true≢false (sym e ∙ ap is_some q))
        by (Some k) q = noted_bytes k q

  -- the code by the notes alone
  noted_code : pick (every_below (has slots) p.sectors) 0 0x14 ≡ keep_code p t image
  noted_code = by (every_below (has slots) p.sectors) refl (missing_one p t image 0x14 either)
    where
      by : (b : Bool) → every_below (has slots) p.sectors ≡ b → (keep_code p t image ≡ 0) ⊎ (keep_code p t image ≡ 0x14)
          → pick b 0 0x14 ≡ keep_code p t image
      by true e c = pick_true _ _ _ refl ∙ sym (missing_none p t image (λ s h. noted_well s h (every_at (has slots) p.sectors e s h)))
      by false e (inl c) = absurd (true≢false (sym (every_true (has slots) p.sectors (λ s h. ap is_some (coded s h c).1)) ∙ e))
      by false e (inr c) = pick-false _ _ _ refl ∙ sym c

  -- with code 0 each sector is found in the slot noted
  noted_located : keep_code p t image ≡ 0 → Located p t slots image
  unfolding Located
  noted_located z s h =
      let n = coded s h z in
      (ap is_some n.1, u, noted_slot s h n.0 n.1 ∙ ap (λ (o : Note). Slot u (unwrap_or o 0)) (sym n.1))

-- ---- what is answered, by where the search goes on
abbrev Answered : Params → Track → (slots : List Note) → (image : List ℕ) → (code : ℕ) → Type 0
Answered p t slots image code = (code ≡ keep_code p t image) × (length slots ≡ 32) × (code ≡ 0 → Located p t slots image)

module _ (p : Params) (t : Track) (slots : List Note) (image : List ℕ) (w : Where) (ew : w ≡ where_of p t image) (within : Within p) (code : ℕ) where
  pub answer_off : w ≡ Off code → length slots ≡ 32 → Answered p t slots image code
  answer_off e l =
      let off = sym ew ∙ e in
      (sym (missing_off p t image code off within), l, λ z. absurd (omega (arith, z, off_some p t image code off)))

  pub answer_on : (u : Track) → w ≡ On u → length slots ≡ 32 → (bytes : List ℕ) → bytes ≡ track_bytes p u image → Noted p bytes slots p.sectors
      → code ≡ pick (every_below (has slots) p.sectors) 0 0x14 → Answered p t slots image code
  answer_on u e l bytes eb notes ec =
      let on = sym ew ∙ e in
      let all = rw eb at notes in
      let is = ec ∙ noted_code p t u slots image within on l all in
      (is, l, λ z. noted_located p t u slots image within on l all (sym is ∙ z))
