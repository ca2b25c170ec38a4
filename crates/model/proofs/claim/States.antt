-- Where an image mirrors the machine, the commands' own checks go as the machine's do.
use Prim.Native.Nat.{ℕ, zero, suc, ◌-◌, ◌<◌}
use mathlib.Core.Path.{◌≡◌, refl, sym, ap, ◌∙◌}
use mathlib.Core.Bool.{Bool, true, false, not, ◌&&◌, ◌||◌, true≢false}
use mathlib.Core.Logic.{◌⊎◌, inl, inr}
use mathlib.Core.Option.{Option, none, some}
use mathlib.Core.List.{List, [], ◌∷◌, ◌++◌}
use native.Mathlib.Omega.{arith}
use native.Mathlib.Decide.{dec_lt, ℕ_discrete}
use native.Mathlib.Nat.{eq-or-lt_of_le, le_of_suc-le-suc}
use lib.Dec.{eqb, ltb, leb}
use borrow.Author.Tests.{eq-eqb, ne_eqb, le-ltb, le-leb}
use Rattle.base.specs.Pick.{pick}
use Rattle.base.specs.First.{first_below, some_below}
use Rattle.base.proofs.Bools.{leb_not}
use Rattle.base.proofs.Firsts.{first_some, first_none, none_first, some_hit, some_none}
use Rattle.geometry.specs.declared.params.Lba.{Lba}
use Rattle.geometry.specs.declared.params.Track.{Track}
use Rattle.geometry.specs.declared.params.Params.{Params}
use Rattle.geometry.specs.Params.{Within, track_count, track_of, last_address, track, OnDrive, address_count}
use Rattle.geometry.proofs.Sizes.{sectors_some}
use Rattle.geometry.proofs.Addresses.{track_in, same_track}
use Rattle.interleave.specs.Layout.{layout_of}
use Rattle.track.specs.declared.state.State.{State}
use Rattle.track.specs.declared.state.State.TheVariants.{Sound, Bad, Moved, Taken}
use Rattle.track.specs.Pair.{state_of, one_below, splits, pair_split}
use Rattle.track.specs.State.{is_bad as bad_state, is_moved as moved_state, is_taken as taken_state, is_taken_by_other as taken_by_other}
use Rattle.formatter.specs.Check.{check_code}
use Rattle.formatter.proofs.Laws.{where_bad, state_formed, check_sound, check_moved, check_bad, check_taken}
use Rattle.keeping.specs.Keep.{keep_code}
use Rattle.keeping.proofs.Laws.{sound_code, missing_off}
use Rattle.model.specs.Verdicts.{Verdict}
use Rattle.model.specs.Verdicts.{Faulty, Passed}
use Rattle.model.specs.Checks.{Test, on, judged}
use Rattle.model.specs.Commands.{check_tests, alone_tests, assign_tests}
use Rattle.model.specs.Machine.{Kind, stateless, sound, bad, moved, taken, is_bad, is_moved, is_taken, denied, paired, parted, parted_by, some_parted, unassignable}
use Rattle.model.proofs.claim.Mirrors.{state_for, Mirrors}
use Rattle.model.proofs.claim.Finding.{sound_formed, bad_formed, moved_formed, taken_formed}

-- ---- pairs that are split
-- at most is not above
one_of : (a b : Bool) → ((a && not b) || (not a && b)) ≡ ((a && not b) || (b && not a))
one_of true true = refl
one_of true false = refl
one_of false true = refl
one_of false false = refl

below_parted : (s t u : Track) → one_below s t u ≡ parted s t u
unfolding one_below parted
below_parted s t u = rw (leb_not s.0 u.0, leb_not s.0 t.0) (one_of (ltb t.0 s.0) (ltb u.0 s.0))

split_parted : (s t : Track) (k : Kind) → splits s t (state_for k) ≡ parted_by s t k
unfolding splits parted_by state_for
split_parted s t stateless = refl
split_parted s t sound = refl
split_parted s t bad = refl
split_parted s t (moved u) = below_parted s t u
split_parted s t (taken u) = below_parted s t u

-- no track is below track 0
below_zero : (t u : Track) → one_below (track 0) t u ≡ false
unfolding one_below
below_zero t u = rw (le-ltb t.0 0 (omega arith), le-ltb u.0 0 (omega arith))

splits_zero : (t : Track) (state : State) → splits (track 0) t state ≡ false
unfolding splits
splits_zero t Sound = refl
splits_zero t Bad = refl
splits_zero t (Moved u) = below_zero t u
splits_zero t (Taken u) = below_zero t u

-- Format Drive from track 0 on splits no pair, in any image.
pub split_zero : (p : Params) (image : List ℕ) → pair_split p (track 0) image ≡ false
unfolding pair_split
split_zero p image = some_none _ _ (none_first _ _ (λ i h. splits_zero (track i) (state_of p (track i) image)))

-- the machine's test of every track below n, by what it gives for each
none_parted : (kind : Track → Kind) (s : Track) (n : ℕ) → ((k : ℕ) → k < n → parted_by s (track k) (kind (track k)) ≡ false) → some_parted kind s n ≡ false
unfolding some_parted
none_parted kind s zero h = refl
none_parted kind s (suc n) h = rw (h n (omega arith), none_parted kind s n (λ k l. h k (omega arith)))

or-true : (b : Bool) → (b || true) ≡ true
or-true true = refl
or-true false = refl

some_parted_lem : (kind : Track → Kind) (s : Track) (n k : ℕ) → k < n → parted_by s (track k) (kind (track k)) ≡ true → some_parted kind s n ≡ true
unfolding some_parted
some_parted_lem kind s zero k h e = absurd (omega arith)
some_parted_lem kind s (suc n) k h e = by (eq-or-lt_of_le (le_of_suc-le-suc h)) (λ l. some_parted_lem kind s n k l e)
  where
    by : (k ≡ n) ⊎ (k < n) → (k < n → some_parted kind s n ≡ true) → (parted_by s (track n) (kind (track n)) || some_parted kind s n) ≡ true
    by (inl z) ih = rw (ap (λ (i : ℕ). parted_by s (track i) (kind (track i))) (sym z) ∙ e)
    by (inr l) ih = rw (ih l) (or-true (parted_by s (track n) (kind (track n))))

parted_below_zero : (t : Track) (k : Kind) → parted_by (track 0) t k ≡ false
parted_below_zero t k = sym (split_parted (track 0) t k) ∙ splits_zero t (state_for k)

pub parted_zero : (kind : Track → Kind) (n : ℕ) → some_parted kind (track 0) n ≡ false
parted_zero kind n = none_parted kind (track 0) n (λ k h. parted_below_zero (track k) (kind (track k)))

-- ---- states and kinds give the same tests
bad_kind : (k : Kind) → bad_state (state_for k) ≡ is_bad k
unfolding bad_state state_for is_bad
bad_kind stateless = refl
bad_kind sound = refl
bad_kind bad = refl
bad_kind (moved u) = refl
bad_kind (taken u) = refl

moved_kind : (k : Kind) → moved_state (state_for k) ≡ is_moved k
unfolding moved_state state_for is_moved
moved_kind stateless = refl
moved_kind sound = refl
moved_kind bad = refl
moved_kind (moved u) = refl
moved_kind (taken u) = refl

taken_kind : (k : Kind) → taken_state (state_for k) ≡ is_taken k
unfolding taken_state state_for is_taken
taken_kind stateless = refl
taken_kind sound = refl
taken_kind bad = refl
taken_kind (moved u) = refl
taken_kind (taken u) = refl

eqb_turned : (a b : ℕ) → eqb a b ≡ eqb b a
eqb_turned a b = by (ℕ_discrete a b)
  where
    by : Dec (a ≡ b) → eqb a b ≡ eqb b a
    by (yes e) = eq-eqb a b e ∙ sym (eq-eqb b a (sym e))
    by (no ne) = ne_eqb a b ne ∙ sym (ne_eqb b a (λ e. ne (sym e)))

-- taken by another than t, if not by t
other_kind : (t : Track) (k : Kind) → (k ≡ taken t → ⊥) → taken_by_other t (state_for k) ≡ is_taken k
unfolding taken_by_other state_for is_taken
other_kind t stateless ne = refl
other_kind t sound ne = refl
other_kind t bad ne = refl
other_kind t (moved u) ne = refl
other_kind t (taken u) ne = ap not (ne_eqb u.0 t.0 (λ e. ne (ap taken (same_track u t e))))

-- what is missing in A, where keep asks for it: nothing in a sound track, 19h in a bad one
asked : (keep spoilt : Bool) (a : Lba)
    → pick (not (eqb (pick keep (pick spoilt 0x19 0) 0) 0)) (Faulty (pick keep (pick spoilt 0x19 0) 0) a) Passed ≡ pick (keep && spoilt) (Faulty 0x19 a) Passed
unfolding pick
asked true true a = refl
asked true false a = refl
asked false spoilt a = refl

-- ---- Check Track's code, by the track's kind
module _ (a : Lba) where
  code_slots : (same : Bool) → judged (check_tests (pick same 0 0x1A) a) ≡ judged (on (not same) 0x1A a ∷ [])
  unfolding judged check_tests pick
  code_slots true = refl
  code_slots false = refl

  code_sound : (same : Bool) → judged (check_tests (pick same 0 0x1A) a) ≡ judged (denied sound a ++ (on (not same) 0x1A a ∷ []))
  unfolding judged denied is_bad is_taken pick
  code_sound same = code_slots same

  code_moved : (u : Track) (same : Bool)
      → judged (check_tests (pick same 0 0x1A) a) ≡ judged (denied (moved u) a ++ (on (not same) 0x1A a ∷ []))
  unfolding judged denied is_bad is_taken pick
  code_moved u same = code_slots same

  code_bad : (rest : List Test) → judged (check_tests 0x19 a) ≡ judged (denied bad a ++ rest)
  unfolding judged check_tests denied is_bad is_taken pick
  code_bad rest = refl

  code_taken : (u : Track) (rest : List Test) → judged (check_tests 0x1C a) ≡ judged (denied (taken u) a ++ rest)
  unfolding judged check_tests denied is_bad is_taken pick
  code_taken u rest = refl

module _ (p : Params) (w : Within p) (kind : Track → Kind) (inter : Track → ℕ) (held : Lba → List ℕ) (image : List ℕ)
    (mirror : Mirrors p kind inter held image) where
  pub state_mirrored : (t : Track) → t.0 < track_count p → state_of p t image ≡ state_for (kind t)
  state_mirrored t h = state_formed p t (state_for (kind t)) (inter t) image (omega (arith, w.sectors_some)) (mirror.formed t h)

  test_mirrored : (s t : Track) → t.0 < track_count p → splits s t (state_of p t image) ≡ parted_by s t (kind t)
  test_mirrored s t h = ap (splits s t) (state_mirrored t h) ∙ split_parted s t (kind t)

  pub split_mirrored : (s : Track) → pair_split p s image ≡ some_parted kind s (track_count p)
  unfolding pair_split
  split_mirrored s = by (first_below test (track_count p)) refl
    where
      test : ℕ → Bool
      test k = splits s (track k) (state_of p (track k) image)

      by : (o : Option ℕ) → first_below test (track_count p) ≡ o → some_below test (track_count p) ≡ some_parted kind s (track_count p)
      by none e =
          some_none test (track_count p) e
          ∙ sym (none_parted kind s (track_count p) (λ k h. sym (test_mirrored s (track k) h) ∙ first_none test (track_count p) e k h))
      by (some k) e =
          let r = first_some test (track_count p) k e in
          some_hit test (track_count p) k e ∙ sym (some_parted_lem kind s (track_count p) k r.0 (sym (test_mirrored s (track k) r.0) ∙ r.1))

  pub alone_mirrored : (t : Track) (a : Lba) → t.0 < track_count p → alone_tests (state_of p t image) a ≡ paired (kind t) a
  unfolding alone_tests paired
  alone_mirrored t a h = rw (state_mirrored t h, moved_kind (kind t), taken_kind (kind t))

  -- a moved track is not its own partner
  moved_away : (t u : Track) → t.0 < track_count p → kind t ≡ moved u → u.0 ≡ t.0 → ⊥
  moved_away t u h e z =
      let turned : moved u ≡ taken t = sym e ∙ ap kind (same_track t u (sym z)) ∙ (mirror.moves t u h e).returned in
      let no : ◌≡◌ {A = ℕ} 0 1 = cc in omega arith

  module _ (t : Track) (a : Lba) (f : ℕ) (h : t.0 < track_count p) (hf : (0 < f) × (f < p.sectors)) where
    check_kind : (k : Kind) → kind t ≡ k
        → judged (check_tests (check_code p t (layout_of p.sectors f) image) a)
        ≡ judged (denied k a ++ (on (not (eqb f (inter t))) 0x1A a ∷ []))
    check_kind stateless e = absurd (mirror.stated t h e)
    check_kind sound e =
        rw (check_sound p t f (inter t) image hf (mirror.inters t h) (sound_formed p kind inter held image mirror t h e))
        (code_sound a (eqb f (inter t)))
    check_kind bad e =
        rw (check_bad p t f (inter t) image hf (mirror.inters t h) (bad_formed p kind inter held image mirror t h e)) (code_bad a _)
    check_kind (moved u) e =
        let pair = mirror.moves t u h e in
        rw (
          check_moved p t f (inter u) image hf (mirror.inters u pair.ours) u (inter t) pair.ours (moved_away t u h e)
              (moved_formed p kind inter held image mirror t h u e) (taken_formed p kind inter held image mirror u pair.ours t pair.returned),
          pair.inters,
        )
        (code_moved a u (eqb f (inter t)))
    check_kind (taken u) e =
        rw (check_taken p t f (inter t) image hf (mirror.inters t h) u (taken_formed p kind inter held image mirror t h u e)) (code_taken a u _)

  pub check_mirrored : (t : Track) (a : Lba) (f : ℕ) → t.0 < track_count p → (0 < f) × (f < p.sectors)
      → judged (check_tests (check_code p t (layout_of p.sectors f) image) a)
      ≡ judged (denied (kind t) a ++ (on (not (eqb f (inter t))) 0x1A a ∷ []))
  check_mirrored t a f h hf = check_kind t a f h hf (kind t) refl

  -- an address past the last one is at or past their number
  past_last : (b : ℕ) → ltb (last_address p).0 b ≡ leb (address_count p) b
  past_last b =
      let e : suc (address_count p - 1) ≡ address_count p = omega (arith, sectors_some p w) in
      ap (λ (n : ℕ). leb n b) e

  -- ---- Assign Alternate, by the kind of A
  module _ (keep : Bool) (first : ℕ) (a b : Lba) where
    abbrev A : Track
    A = track_of p a

    abbrev B : Track
    B = track_of p b

    -- the engine's tests, with what is missing in A; the machine's
    abbrev engine_says : (state_a state_b : State) → (missing : ℕ) → Verdict
    engine_says state_a state_b missing = judged (assign_tests p first a b state_a state_b (pick keep missing 0))

    abbrev machine_says : Verdict
    machine_says = judged (unassignable kind p keep first a b)

    -- moved or taken: that is said before B is looked at
    says_moved : (u : Track) (state_b : State) (missing : ℕ) → kind A ≡ moved u → engine_says (Moved u) state_b missing ≡ machine_says
    unfolding judged assign_tests unassignable moved_state is_moved pick
    says_moved u state_b missing e = rw (e, past_last b.0)

    says_taken : (u : Track) (state_b : State) (missing : ℕ) → kind A ≡ taken u → engine_says (Taken u) state_b missing ≡ machine_says
    unfolding judged assign_tests unassignable moved_state taken_state is_moved is_taken pick
    says_taken u state_b missing e = rw (e, past_last b.0)

    -- B past the last address: that is said before the tracks are looked at
    says_past : (state_a state_b : State) (missing : ℕ) → leb (address_count p) b.0 ≡ true → engine_says state_a state_b missing ≡ machine_says
    unfolding judged assign_tests unassignable pick
    says_past state_a state_b missing e = rw (past_last b.0, e)

    -- sound or bad: B by its kind, which is not taken by A, since A is not moved; then what is missing in A
    says_here : (k : Kind) (missing : ℕ) → kind A ≡ k → is_moved k ≡ false → is_taken k ≡ false → missing ≡ pick (is_bad k) 0x19 0 → (kind B ≡ taken A → ⊥)
        → engine_says (state_for k) (state_for (kind B)) missing ≡ machine_says
    unfolding judged assign_tests unassignable
    says_here k missing e m t z other =
        rw (e, z, moved_kind k, taken_kind k, m, t, past_last b.0, eqb_turned B.0 A.0, other_kind A (kind B) other, moved_kind (kind B), bad_kind (kind B), asked keep (is_bad k) a)

    module _ (h : A.0 < track_count p) where
      -- A is not moved: B is not taken by it
      not_by_first : (k : Kind) → kind A ≡ k → is_moved k ≡ false → B.0 < track_count p → kind B ≡ taken A → ⊥
      unfolding is_moved
      not_by_first k e off hb taken-by = true≢false (sym (ap is_moved (sym e ∙ (mirror.takes B A hb taken-by).returned)) ∙ off)

      inside : B.0 < track_count p → (k : Kind) → kind A ≡ k → engine_says (state_for k) (state_for (kind B)) (keep_code p A image) ≡ machine_says
      unfolding state_for is_moved is_taken is_bad pick
      inside hb stateless e = absurd (mirror.stated A h e)
      inside hb sound e =
          let code = sound_code p A (inter A) image (omega (arith, w.sectors_some)) (sound_formed p kind inter held image mirror A h e) in
          says_here sound _ e refl refl code (not_by_first sound e refl hb)
      inside hb bad e =
          let off = where_bad p A (inter A) image (omega (arith, w.sectors_some)) (bad_formed p kind inter held image mirror A h e) in
          says_here bad _ e refl refl (missing_off p A image 0x19 off w) (not_by_first bad e refl hb)
      inside hb (moved u) e = says_moved u _ _ e
      inside hb (taken u) e = says_taken u _ _ e

      pub assign_mirrored : judged (assign_tests p first a b (state_of p A image) (state_of p B image) (pick keep (keep_code p A image) 0)) ≡ machine_says
      assign_mirrored = by (dec_lt b.0 (address_count p))
        where
          by : Dec (OnDrive p b) → judged (assign_tests p first a b (state_of p A image) (state_of p B image) (pick keep (keep_code p A image) 0)) ≡ machine_says
          by (yes l) = let hb = track_in p w b l in rw (state_mirrored A h, state_mirrored B hb) (inside hb (kind A) refl)
          by (no l) = says_past _ _ _ (le-leb (address_count p) b.0 (omega arith))
