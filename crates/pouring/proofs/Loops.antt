-- The loop of turns: the rest of the copy, done from here, is the whole.
use mathlib.Core.Path.{◌≡◌, refl, sym, ap, ◌∙◌}
use mathlib.Core.List.{List, []}
use Prim.Native.Nat.{ℕ, zero, suc, ◌+◌, ◌-◌, ◌≤◌, ◌<◌}
use native.Mathlib.Omega.{arith}
use native.Mathlib.Nat.{zero-mul}
use lib.ListN.{length}
use Rattle.std.specs.Prelude.{None}
use Rattle.copying.specs.Ends.{as_end}
use Rattle.copying.specs.declared.route.Route.{Route}
use Rattle.copying.specs.declared.route.Copied.{Copied}
use Rattle.copying.specs.Ends.{End}
use Rattle.copying.specs.Ends.{Going, SourceFault, TargetFault, Short}
use Rattle.copying.specs.Copying.{Copying, copy_begun, unless_ended, copying, completed, copied}
use Rattle.copying.proofs.Laws.{copying_more, on_going, on_same, on_self, none_more}
use Rattle.pouring.specs.declared.turn.Progress.{Progress}
use Rattle.pouring.specs.Promises.{RouteReady, WentAs, scratch_length, standing, Underway, Stood, TurnedTo, NoTurnLeft, CompletedTo}
use Rattle.pouring.proofs.Ends.{going_or_not}

-- where the Copy y stands, for a copy that began with `images₀`
pub record Turning (r : Route) (n : ℕ) (images₀ : List (List ℕ)) (s : Progress) (scratch : List ℕ) (images : List (List ℕ)) : Type 0 where
  pub under : Underway r n s scratch images
  pub y : Copying
  pub stood : Stood y s scratch images
  pub whole : completed r (unless_ended y (λ z. copying r (n - s.read) z)) ≡ copied r n images₀

-- a bound on the turns that are left
unfoldable pub turns_left : End → (sectors : ℕ) → ℕ
turns_left Going sectors = suc sectors
turns_left (SourceFault code) sectors = 0
turns_left (TargetFault code) sectors = 0
turns_left Short sectors = 0

left_going : (e : End) (k : ℕ) → e ≡ Going → turns_left e k ≡ suc k
unfolding turns_left
left_going e k z = ap (λ (i : End). turns_left i k) z

left_ended : (e : End) (k : ℕ) → (e ≡ Going → ⊥) → turns_left e k ≡ 0
unfolding turns_left
left_ended Going k ne = absurd (ne refl)
left_ended (SourceFault code) k ne = refl
left_ended (TargetFault code) k ne = refl
left_ended Short k ne = refl

abbrev first : Progress
first = record { read = 0; done = 0; held = 0; fault = None }

module _ (r : Route) (n : ℕ) (images₀ : List (List ℕ)) where
  pub turning_none : (scratch : List ℕ) → RouteReady r n images₀ → length scratch ≡ scratch_length → Turning r n images₀ first scratch images₀
  turning_none scratch ready long = record {
    under = record {
      source_there = ready.source_there;
      target_there = ready.target_there;
      few = ready.most;
      fitting = ready.fitting;
      most = λ e. omega arith;
      even = λ e. omega (arith, zero-mul r.p.size, zero-mul r.q.size);
      short = ready.fitting.target_some;
      none = λ e. refl;
      scratch_long = long;
    };
    y = copy_begun images₀;
    stood = record { last = []; is = refl };
    whole =
        let all : n - 0 ≡ n = omega arith in
        ap (completed r) (on_going (copy_begun images₀) (λ z. copying r (n - 0) z) refl ∙ ap (λ (i : ℕ). copying r i (copy_begun images₀)) all);
  }

  module _ (s : Progress) (scratch : List ℕ) (images : List (List ℕ)) (w : Turning r n images₀ s scratch images) where
    abbrev x : Copying
    x = standing s scratch images w.stood.last

    whole_here : completed r (unless_ended x (λ z. copying r (n - s.read) z)) ≡ copied r n images₀
    whole_here = sym (ap (λ (c : Copying). completed r (unless_ended c (λ z. copying r (n - s.read) z))) w.stood.is) ∙ w.whole

    -- ---- another turn
    module _ (going : as_end s.fault ≡ Going) (t : Progress) (scratched : List ℕ) (left : List (List ℕ)) (turn : TurnedTo r n s scratch images t scratched left) where
      abbrev y : Copying
      y = copying r turn.count x

      stood : Stood y t scratched left
      stood = turn.on w.stood.last

      ends : y.end ≡ as_end t.fault
      ends = ap (λ (c : Copying). c.end) stood.is

      pub turning_more : Turning r n images₀ t scratched left
      turning_more =
          let k = n - s.read - turn.count in
          let all : n - s.read ≡ turn.count + k = omega (arith, turn.most) in
          record {
            under = turn.under;
            y = y;
            stood = stood;
            whole =
                ap (completed r)
                (on_same y _ (λ z. copying r k z)
                (λ e. let rest : n - t.read ≡ k = omega (arith, turn.counted (sym ends ∙ e)) in ap (λ (i : ℕ). copying r i y) rest)
                ∙ sym (copying_more r turn.count k x going) ∙ ap (λ (i : ℕ). copying r i x) (sym all)
                ∙ sym (on_going x (λ z. copying r (n - s.read) z) going))
                ∙ whole_here;
          }

      pub turning_less : s.read < n → turns_left (as_end t.fault) (n - t.read) < turns_left (as_end s.fault) (n - s.read)
      turning_less l = by (going_or_not (as_end t.fault))
        where
          by : Dec (as_end t.fault ≡ Going) → turns_left (as_end t.fault) (n - t.read) < turns_left (as_end s.fault) (n - s.read)
          by (yes e) =
              rw (left_going (as_end t.fault) (n - t.read) e, left_going (as_end s.fault) (n - s.read) going)
              (omega (arith, turn.counted e, turn.some, l))
          by (no e) = rw (left_ended (as_end t.fault) (n - t.read) e, left_going (as_end s.fault) (n - s.read) going) (omega arith)

    -- ---- no turn more
    module _ (over : as_end s.fault ≡ Going → n ≤ s.read) where
      pub last_turn : NoTurnLeft r s scratch images
      last_turn = record { count = n; under = w.under; all = λ e. omega (arith, over e, w.under.most e) }

      pub turning_all : (c : Copied) (left : List (List ℕ)) → CompletedTo r s scratch images c left → WentAs (copied r n images₀) c left
      turning_all c left done =
          let is : completed r x ≡ copied r n images₀ =
          ap (completed r)
          (sym (on_self x)
          ∙ on_same x (λ z. z) (λ z. copying r (n - s.read) z)
          (λ e. let none : n - s.read ≡ zero = omega (arith, over e) in sym (ap (λ (i : ℕ). copying r i x) none ∙ none_more r x)))
          ∙ whole_here in
          rw is at (done w.stood.last)
