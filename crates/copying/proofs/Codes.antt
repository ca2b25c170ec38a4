-- The codes of a Read and a Write say whether they came to their ends, and so how a Copy ended.
use mathlib.Core.Path.{◌≡◌, refl, sym, ap, ◌∙◌}
use mathlib.Core.Bool.{Bool, true, false}
use mathlib.Core.List.{List, ◌++◌}
use Prim.Native.Nat.{ℕ, ◌+◌, ◌*◌, ◌/◌, ◌%◌, ◌≤◌, ◌<◌}
use native.Mathlib.Omega.{arith}
use native.Mathlib.Decide.{dec_lt}
use native.Mathlib.Nat.{suc-mul, mod-lt, div-add-mod'}
use borrow.Author.Tests.{lt-ltb, le-ltb, ltb-false, eq-eqb, ne_eqb, eqb-true, eqb-false}
use lib.Dec.{eqb, ltb}
use lib.ListN.{replicate}
use Rattle.base.specs.Pick.{pick}
use Rattle.base.proofs.Decide.{pick_true, pick-false}
use Rattle.sectors.specs.Transfer.{Transfer}
use Rattle.sectors.proofs.Laws.{Handed, reading_handed}
use Rattle.contents.proofs.Laws.{reading_whole, writing_most, writing_all, writing_whole}
use Rattle.copying.specs.declared.route.Route.{Route}
use Rattle.copying.specs.Ends.{End}
use Rattle.copying.specs.Ends.{Going, SourceFault, TargetFault, Short}
use Rattle.copying.specs.Images.{image_of}
use Rattle.copying.specs.Copying.{Copying, copied}
use Rattle.copying.specs.Listwise.{filled_by, read_all, sectors_for, write_all, end_of, read_of, Fitting}
use Rattle.copying.proofs.Counts.{filled_whole, filled_part}
use Rattle.copying.proofs.Sources.{all_for}
use Rattle.copying.proofs.AtOnce.{copied_listwise}

-- the end by the codes of the Read x and the Write w
unfoldable pub end_by_codes : Route → (n : ℕ) → (x w : Transfer) → End
end_by_codes r n x w =
    pick (eqb w.code 0)
    (pick (eqb x.code 0) (pick (eqb (n * r.p.size % r.q.size) 0) Going Short) (SourceFault x.code))
    (TargetFault w.code)

-- a transfer is whole where it has no code, and only there
by_code : (done m code : ℕ) (fault good : End) → done ≤ m → (code ≡ 0 → done ≡ m) → (done ≡ m → code ≡ 0)
    → pick (ltb done m) fault good ≡ pick (eqb code 0) good fault
by_code done m code fault good most all none = by (dec_lt done m)
  where
    by : Dec (done < m) → pick (ltb done m) fault good ≡ pick (eqb code 0) good fault
    by (yes l) = pick_true _ _ _ (lt-ltb done m l) ∙ sym (pick-false _ _ _ (ne_eqb code 0 (λ z. omega (arith, l, all z))))
    by (no l) =
        let e : done ≡ m = omega arith in
        pick-false _ _ _ (le-ltb done m (omega arith)) ∙ sym (pick_true _ _ _ (eq-eqb code 0 (none e)))

module _ (r : Route) (n : ℕ) (images : List (List ℕ)) (fit : Fitting r n images) where
  abbrev x : Transfer
  x = read_all r n images

  abbrev w : Transfer
  w = write_all r n images x

  abbrev given : List ℕ
  given = x.handed ++ replicate r.q.size 0

  abbrev S : List ℕ
  S = image_of r.source images

  abbrev T : List ℕ
  T = image_of r.target images

  abbrev m : ℕ
  m = sectors_for r n x.done

  handed : Handed r.p n S x
  handed = reading_handed r.p S fit.source_fits n r.a fit.source_on

  -- the Read is whole where it has no code, and only there
  pub read_all_lem : x.code ≡ 0 → x.done ≡ n
  read_all_lem = handed.all

  pub read_whole : x.done ≡ n → x.code ≡ 0
  read_whole = reading_whole r.p n r.a S

  pub end_by_codes_lem : end_of r n x w ≡ end_by_codes r n x w
  unfolding end_of end_by_codes
  end_by_codes_lem =
      by_code w.done m _ _ _ (writing_most r.q m r.b T given) (writing_all r.q m r.b T given) (writing_whole r.q m r.b T given)
      ∙ ap (λ (e : End). pick (eqb w.code 0) e (TargetFault w.code))
      (by_code x.done n _ _ _ handed.most read_all_lem read_whole)

  -- where the Write is whole, all that the Read gave was read
  pub read_so_far : w.code ≡ 0 → read_of r n x w ≡ x.done
  unfolding read_of
  read_so_far e =
      let all = writing_all r.q m r.b T given e in
      pick-false _ _ _ (le-ltb w.done m (omega (arith, all)))

-- ---- A Copy that ended well has read all its source, and all its bytes are in the sectors done.
pub record GoneWhole (r : Route) (n : ℕ) (images : List (List ℕ)) : Type 0 where
  pub read : (read_all r n images).done ≡ n
  pub bytes : (copied r n images).done * r.q.size ≡ n * r.p.size

-- One that ended with its last sector filled in part has read all too, and the bytes end in that sector.
pub record GoneShort (r : Route) (n : ℕ) (images : List (List ℕ)) : Type 0 where
  pub read : (read_all r n images).done ≡ n
  pub enough : n * r.p.size < (copied r n images).done * r.q.size
  pub no_more : (copied r n images).done * r.q.size < n * r.p.size + r.q.size

not_ended : (b : Bool) (x y end : End) → (x ≡ end → ⊥) → pick b x y ≡ end → (b ≡ false) × (y ≡ end)
unfolding pick
not_ended true x y end ne e = absurd (ne e)
not_ended false x y end ne e = (refl, e)

no_rest : (b : Bool) → pick b Going Short ≡ Going → b ≡ true
unfolding pick
no_rest true e = refl
no_rest false e = absurd (let z : ◌≡◌ {A = ℕ} 0 1 = cc in omega arith)

some_rest : (b : Bool) → pick b Going Short ≡ Short → b ≡ false
unfolding pick
some_rest true e = absurd (let z : ◌≡◌ {A = ℕ} 0 1 = cc in omega arith)
some_rest false e = refl

module _ (r : Route) (n : ℕ) (images : List (List ℕ)) (fit : Fitting r n images) where
  -- no fault: all is read, and all that it fills is written
  record Came (end : End) : Type 0 where
    read : (x r n images fit).done ≡ n
    done : (copied r n images).done ≡ filled_by n r.p.size r.q.size
    last : pick (eqb (n * r.p.size % r.q.size) 0) Going Short ≡ end

  came : (end : End) → ((code : ℕ) → TargetFault code ≡ end → ⊥) → ((code : ℕ) → SourceFault code ≡ end → ⊥) → (copied r n images).end ≡ end → Came end
  unfolding end_of
  came end no_target no_source is-end =
      let is = copied_listwise r n images fit in
      let e : end_of r n (x r n images fit) (w r n images fit) ≡ end = sym (ap (λ (y : Copying). y.end) is) ∙ is-end in
      let one = not_ended _ _ _ end (no_target _) e in
      let two = not_ended _ _ _ end (no_source _) one.1 in
      let read : (x r n images fit).done ≡ n = omega (arith, ltb-false (x r n images fit).done n two.0, (handed r n images fit).most) in
      let most = writing_most r.q (m r n images fit) r.b (T r n images fit) (given r n images fit) in
      let all : (w r n images fit).done ≡ m r n images fit = omega (arith, ltb-false (w r n images fit).done (m r n images fit) one.0, most) in
      let count = all_for r n (x r n images fit).done read ∙ ap (λ (c : ℕ). filled_by c r.p.size r.q.size) read in
      record { read = read; done = ap (λ (y : Copying). y.done) is ∙ all ∙ count; last = two.1 }

  pub going_whole : (copied r n images).end ≡ Going → GoneWhole r n images
  going_whole e =
      let c = came Going (λ code z. let f : ◌≡◌ {A = ℕ} 0 1 = cc in omega arith) (λ code z. let f : ◌≡◌ {A = ℕ} 0 1 = cc in omega arith) e in
      let rest : n * r.p.size % r.q.size ≡ 0 = eqb-true _ _ (no_rest _ c.last) in
      let split = div-add-mod' (n * r.p.size) r.q.size in
      let done = c.done ∙ filled_whole (n * r.p.size) r.q.size fit.target_some rest in
      record { read = c.read; bytes = ap (λ (i : ℕ). i * r.q.size) done ∙ omega (arith, split, rest) }

  pub short_whole : (copied r n images).end ≡ Short → GoneShort r n images
  short_whole e =
      let c = came Short (λ code z. let f : ◌≡◌ {A = ℕ} 0 1 = cc in omega arith) (λ code z. let f : ◌≡◌ {A = ℕ} 0 1 = cc in omega arith) e in
      let some : n * r.p.size % r.q.size ≡ 0 → ⊥ = eqb-false _ _ (some_rest _ c.last) in
      let split = div-add-mod' (n * r.p.size) r.q.size in
      let less = mod-lt (n * r.p.size) fit.target_some in
      let done = c.done ∙ filled_part (n * r.p.size) r.q.size fit.target_some some in
      let bytes = ap (λ (i : ℕ). i * r.q.size) done ∙ suc-mul (n * r.p.size / r.q.size) r.q.size in
      let there : 0 < n * r.p.size % r.q.size = not_none _ some in
      record { read = c.read; enough = omega (arith, split, less, bytes); no_more = omega (arith, split, there, bytes) }
    where
      not_none : (k : ℕ) → (k ≡ 0 → ⊥) → 0 < k
      not_none k ne = by (dec_lt 0 k)
        where
          by : Dec (0 < k) → 0 < k
          by (yes g) = g
          by (no g) = absurd (ne (omega arith))
