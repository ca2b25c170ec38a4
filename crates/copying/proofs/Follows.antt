-- A Copy's sectors are written as a Write of the same bytes writes them.
use mathlib.Core.Path.{◌≡◌, refl, sym, ap, ◌∙◌}
use mathlib.Core.List.{List, [], ◌++◌}
use Prim.Native.Nat.{ℕ, zero, suc, ◌+◌, ◌*◌, ◌≤◌, ◌<◌}
use native.Mathlib.Omega.{arith}
use native.Mathlib.Nat.{suc-mul, zero-mul, zero-add, suc-add}
use lib.ListN.{length, take, drop, set, length-drop}
use lib.Seq.{drop-drop, take-append-le, drop-append-le, length-take-le, set-set}
use Rattle.geometry.specs.declared.params.Track.{Track}
use Rattle.geometry.specs.Params.{address_count, OnDrive, further}
use Rattle.track.specs.Image.{Fits}
use Rattle.track.specs.Find.{Sector}
use Rattle.track.specs.Find.{Slot, Fault}
use Rattle.sectors.specs.Transfer.{Transfer, ended, write_slot, onward, found, writing}
use Rattle.contents.specs.Content.{content_of, put}
use Rattle.contents.proofs.Laws.{put_fits, wrote}
use Rattle.copying.specs.declared.route.Route.{Route}
use Rattle.copying.specs.Ends.{Going, TargetFault}
use Rattle.copying.specs.Images.{image_of}
use Rattle.copying.specs.Copying.{Copying, stopped, with_rest, on_by, unless_ended, store_in, store, stores}
use Rattle.copying.proofs.Drives.{image_same}
use Rattle.copying.proofs.Steps.{on_going, on_again}

-- the Copy x goes on, and has written what the Write w has
pub record Along (r : Route) (start : List (List ℕ)) (x : Copying) (w : Transfer) : Type 0 where
  pub going : x.end ≡ Going
  pub done : x.done ≡ w.done
  pub last : x.last ≡ w.last
  pub images : x.images ≡ set start r.target w.image
  pub fits : Fits r.q w.image

-- the Copy y has ended where the Write w has, for its code
pub record Halted (r : Route) (start : List (List ℕ)) (y : Copying) (w : Transfer) : Type 0 where
  pub done : y.done ≡ w.done
  pub last : y.last ≡ w.last
  pub images : y.images ≡ set start r.target w.image
  pub rest : y.rest ≡ []
  pub end : y.end ≡ TargetFault w.code

-- n source sectors read alike, whether the target's image is `before` or `after`
abbrev pub SameSource : (r : Route) (start : List (List ℕ)) (n : ℕ) (before after : List ℕ) → Type 0
SameSource r start n before after =
    (i : ℕ) → i < n
    → content_of r.p (further r.a i) (image_of r.source (set start r.target after))
    ≡ content_of r.p (further r.a i) (image_of r.source (set start r.target before))

-- m destination sectors lie on the drive, and what is put there is not seen at n source addresses
pub record Clear (r : Route) (start : List (List ℕ)) (n m : ℕ) : Type 0 where
  pub there : r.target < length start
  pub target_on : r.b.0 + m ≤ address_count r.q
  pub unseen : (image : List ℕ) → Fits r.q image → (sector : List ℕ) → length sector ≡ r.q.size → (j : ℕ) → j < m
      → SameSource r start n image (put r.q (further r.b j) sector image)

module _ (r : Route) (start : List (List ℕ)) (n m : ℕ) (clear : Clear r start n m) where
  -- ---- one sector
  module _ (x : Copying) (w : Transfer) (at : Along r start x w) where
    its_image : image_of r.target x.images ≡ w.image
    its_image = ap (image_of r.target) at.images ∙ image_same r.target start w.image clear.there

    module _ (sector : List ℕ) (long : length sector ≡ r.q.size) (l : x.done < m) where
      on : OnDrive r.q (further r.b x.done)
      on = omega (arith, clear.target_on)

      stored_along : (t : Track) (k : ℕ) → found r.q (further r.b x.done) w.image ≡ Slot t k
          → Along r start (store_in r sector x (Slot t k)) (write_slot r.q sector w t k)
      unfolding store_in write_slot
      stored_along t k e =
          let is = wrote r.q (further r.b x.done) sector w t k e in
          record {
            going = refl;
            done = ap suc at.done;
            last = refl;
            images =
                ap (λ (l : List (List ℕ)). set l r.target (put r.q (further r.b x.done) sector (image_of r.target x.images))) at.images
                ∙ set-set start r.target _ _
                ∙ ap (λ (i : List ℕ). set start r.target (put r.q (further r.b x.done) sector i)) its_image
                ∙ ap (set start r.target) (sym is);
            fits = rw is (put_fits r.q w.image at.fits (further r.b x.done) on sector long);
          }

      stored_source : (t : Track) (k : ℕ) → found r.q (further r.b x.done) w.image ≡ Slot t k
          → SameSource r start n w.image (write_slot r.q sector w t k).image
      stored_source t k e i h =
          ap (λ (image : List ℕ). content_of r.p (further r.a i) (image_of r.source (set start r.target image)))
          (wrote r.q (further r.b x.done) sector w t k e)
          ∙ clear.unseen w.image at.fits sector long x.done l i h

      stored_fields : (t : Track) (k : ℕ)
          → ((store_in r sector x (Slot t k)).done ≡ suc x.done) × ((store_in r sector x (Slot t k)).rest ≡ x.rest) × ((store_in r sector x (Slot t k)).read ≡ x.read)
      unfolding store_in
      stored_fields t k = (refl, refl, refl)

      not_stored : (code : ℕ) → Halted r start (stopped (TargetFault code) x) (ended code w)
      unfolding ended
      not_stored code = record { done = at.done; last = at.last; images = at.images; rest = refl; end = refl }

      not_done : (code : ℕ) → (ended code w).done ≡ x.done
      unfolding ended
      not_done code = sym at.done

      module _ (P : Copying → Transfer → Type 0) (next : Copying → Copying) (go : Track → ℕ → Transfer)
          (stored : (y : Copying) (t : Track) (k : ℕ) → Along r start y (write_slot r.q sector w t k) → y.done ≡ suc x.done → y.rest ≡ x.rest → y.read ≡ x.read
          → SameSource r start n w.image (write_slot r.q sector w t k).image → P (next y) (go t k))
          (halted : (y : Copying) (v : Transfer) → Halted r start y v → v.done ≡ x.done → y.read ≡ x.read → P y v) where
        by_sector : (s : Sector) → found r.q (further r.b x.done) w.image ≡ s → P (unless_ended (store_in r sector x s) next) (onward w go s)
        unfolding onward store_in on_by
        by_sector (Fault code) e = halted (stopped (TargetFault code) x) (ended code w) (not_stored code) (not_done code) refl
        by_sector (Slot t k) e =
            let is = stored_fields t k in
            stored (store_in r sector x (Slot t k)) t k (stored_along t k e) is.0 is.1 is.2 (stored_source t k e)

        pub store_by : P (unless_ended (store r sector x) next) (onward w go (found r.q (further r.b x.done) w.image))
        unfolding store
        store_by = rw its_image (by_sector (found r.q (further r.b x.done) w.image) refl)

  pub shorter : (x : Copying) (w : Transfer) (rest : List ℕ) → Along r start x w → Along r start (with_rest rest x) w
  shorter x w rest at = record { going = at.going; done = at.done; last = at.last; images = at.images; fits = at.fits }

  -- ---- k sectors off the front, and then j more
  module _ (P : Copying → Transfer → Type 0) (next : Copying → Copying) (j : ℕ) (future : List ℕ) where
    pub stores_by : (k : ℕ) (x : Copying) (w : Transfer) → Along r start x w → k * r.q.size ≤ length x.rest → x.done + k ≤ m
        → ((y : Copying) (v : Transfer) → Along r start y v → y.done ≡ x.done + k → y.rest ≡ drop (k * r.q.size) x.rest → y.read ≡ x.read
        → SameSource r start n w.image v.image → P (next y) (writing r.q j (further r.b y.done) (y.rest ++ future) v))
        → ((y : Copying) (v : Transfer) → Halted r start y v → x.done ≤ v.done → v.done < x.done + k → y.read ≡ x.read → P y v)
        → P (unless_ended (stores r k x) next) (writing r.q (k + j) (further r.b x.done) (x.rest ++ future) w)
    unfolding stores writing
    stores_by zero x w at enough on whole halted =
        rw (on_going x next at.going, zero-add j)
        (whole x w at (omega arith) (rw zero-mul refl) refl (λ i h. refl))
    stores_by (suc k) x w at enough on whole halted =
        let D = r.q.size in
        let one : D ≤ length x.rest = omega (arith, enough, suc-mul k D) in
        rw (suc-add k j, on_again, take-append-le D x.rest future one, drop-append-le D x.rest future one)
        (store_by (with_rest (drop D x.rest) x) w (shorter x w (drop D x.rest) at) (take D x.rest) (length-take-le D x.rest one) (omega arith) P
        (λ y. unless_ended (stores r k y) next) _
        (λ y t s at' e d z same.
        let sum : D + k * D ≡ suc k * D = omega (arith, suc-mul k D) in
        let e' : y.done ≡ suc x.done = e in
        let d' : y.rest ≡ drop D x.rest = d in
        let here : suc (r.b.0 + x.done) ≡ r.b.0 + y.done = omega (arith, e') in
        rw (here, ← d')
        (stores_by k y _ at' (rw d' (simp length-drop (omega (arith, enough, sum)))) (omega (arith, e'))
        (λ y' v at'' e'' d'' z'' same''.
        whole y' v at'' (omega (arith, e'', e'))
        (d'' ∙ ap (drop (k * D)) d' ∙ drop-drop (k * D) D x.rest ∙ ap (λ (i : ℕ). drop i x.rest) sum) (z'' ∙ z) (λ i h. same'' i h ∙ same i h))
        (λ y' v h l g z''. halted y' v h (omega (arith, e')) (omega (arith, e')) (z'' ∙ z))))
        (λ y v h e z. halted y v h (omega arith) (omega arith) z))
