-- The last sector done, read back: what is kept at the buffer's front.
use mathlib.Core.Path.{◌≡◌, refl, sym, ap, ap₂, ◌∙◌}
use mathlib.Core.List.{List, [], ◌++◌, append-nil}
use Prim.Native.Nat.{ℕ, zero, suc, ◌+◌, ◌-◌, ◌≤◌}
use native.Mathlib.Omega.{arith}
use native.Mathlib.Nat.{zero-add, add-zero, mul-le-mul_right}
use native.Mathlib.Decide.{ℕ_discrete}
use borrow.Rule.Slice.PartMut.{put_mid}
use lib.ListN.{length, take, drop}
use Rattle.base.specs.Part.{splice}
use Rattle.base.proofs.Parts.{splice_none}
use Rattle.geometry.specs.declared.params.Lba.{Lba}
use Rattle.geometry.specs.declared.params.Params.{Params}
use Rattle.geometry.specs.Params.{address_count, further}
use Rattle.track.specs.Image.{Fits}
use Rattle.sectors.specs.declared.transfer.Done.{Done}
use Rattle.sectors.specs.Transfer.{begun, reading}
use Rattle.sectors.specs.Promises.{HasRead}
use Rattle.sectors.proofs.Laws.{Handed, reading_handed, front_lent}
use Rattle.contents.specs.Content.{read_bytes, Content, Bytes, Missing, content_of}
use Rattle.contents.proofs.Laws.{bytes_at, reading_contents, reading_stop}
use Rattle.copying.specs.declared.route.Route.{Route}
use Rattle.copying.specs.declared.route.Copied.{Copied}
use Rattle.copying.specs.Images.{image_of}
use Rattle.copying.specs.Copying.{Copying, copied}
use Rattle.copying.specs.Listwise.{Fitting}
use Rattle.copying.proofs.Laws.{copied_fits, copied_most, last_none, last_reads}
use Rattle.pouring.specs.Promises.{CopiedBy, WentAs, last_read}

-- ---- A sector that is there is handed over
further_none : (a : Lba) → further a 0 ≡ a
further_none a = λ i. record { 0 = add-zero a.0 i }

bytes_missing : (bytes : List ℕ) (code : ℕ) → Bytes bytes ≡ Missing code → ⊥
bytes_missing bytes code e = let z : ◌≡◌ {A = ℕ} 0 1 = cc in omega arith

module _ (p : Params) (a : Lba) (image bytes : List ℕ) (f : Fits p image) (on : a.0 + 1 ≤ address_count p) (there : content_of p a image ≡ Bytes bytes) where
  handed : Handed p 1 image (reading p 1 a (begun image))
  handed = reading_handed p image f 1 a on

  done : (reading p 1 a (begun image)).done ≡ 1
  done = by (ℕ_discrete (reading p 1 a (begun image)).done 1)
    where
      by : Dec ((reading p 1 a (begun image)).done ≡ 1) → (reading p 1 a (begun image)).done ≡ 1
      by (yes e) = e
      by (no ne) =
          let none : (reading p 1 a (begun image)).done ≡ 0 = omega (arith, handed.most, ne) in
          let first : further a (reading p 1 a (begun image)).done ≡ a = ap (further a) none ∙ further_none a in
          absurd (bytes_missing bytes _ (sym there ∙ sym (ap (λ (b : Lba). content_of p b image) first) ∙ reading_stop p 1 a image (omega (arith, none))))

  pub read_one : (reading p 1 a (begun image)).handed ≡ bytes
  unfolding bytes_at read_bytes
  read_one =
      reading_contents p 1 a image ∙ ap (λ (i : ℕ). bytes_at p i a image) done ∙ ap (λ (c : Content). read_bytes c ++ []) there ∙ append-nil bytes

-- ---- What `keep_done` does
pub last_on : (a b : Lba) (count limit : ℕ) → (count ≡ 0 → ⊥) → b ≡ further a (count - 1) → a.0 + count ≤ limit → b.0 + 1 ≤ limit
last_on a b count limit some e h = rw e (omega (arith, some, h))

module _ (r : Route) (count : ℕ) (buffer : List ℕ) (images : List (List ℕ)) where
  pub none_kept : count ≡ 0 → buffer ≡ splice 0 (last_read r count images) buffer
  unfolding last_read
  none_kept e = rw e (sym (splice_none buffer))

  module _ (some : count ≡ 0 → ⊥) where
    one_read : last_read r count images ≡ (reading r.q 1 (further r.b (count - 1)) (begun (image_of r.target images))).handed
    unfolding last_read
    one_read =
        let e : count ≡ suc (count - 1) = omega (arith, some) in
        ap (λ (i : ℕ). last_read r i images) e

    pub one_kept : Fits r.q (image_of r.target images) → r.b.0 + count ≤ address_count r.q → length buffer ≡ 512
        → (b : Lba) → b ≡ further r.b (count - 1) → (d : Done) (got : List ℕ)
        → HasRead r.q 1 b (image_of r.target images) d (take (r.q.size - 0) (drop 0 buffer)) got
        → put_mid 0 (r.q.size - 0) buffer got ≡ splice 0 (last_read r count images) buffer
    one_kept f on whole b e d got has =
        let size = r.q.size in
        let given = reading_handed r.q (image_of r.target images) f 1 b (last_on r.b b count _ some e on) in
        let few : length (reading r.q 1 b (begun (image_of r.target images))).handed ≤ size = omega (arith, given.long, mul-le-mul_right size given.most) in
        front_lent 0 size size (reading r.q 1 b (begun (image_of r.target images))).handed buffer got (sym (zero-add size)) (omega (arith, f.within.size_most, whole)) few has.area
        ∙ ap (λ (l : List ℕ). splice 0 l buffer) (ap (λ (at : Lba). (reading r.q 1 at (begun (image_of r.target images))).handed) e ∙ sym one_read)

-- ---- The whole copy
module _ (r : Route) (n : ℕ) (images : List (List ℕ)) (fit : Fitting r n images) where
  abbrev x : Copying
  x = copied r n images

  done_on : r.b.0 + x.done ≤ address_count r.q
  done_on = omega (arith, copied_most r n images fit, fit.target_on)

  last_is : (done : ℕ) → x.done ≡ done → last_read r done x.images ≡ x.last
  unfolding last_read
  last_is zero e = sym (last_none r n images fit e)
  last_is (suc m) e =
      read_one r.q (further r.b m) (image_of r.target x.images) x.last (copied_fits r n images fit) (omega (arith, done_on, e))
      (last_reads r n images fit m e)

  module _ (c : Copied) (left : List (List ℕ)) (went : WentAs x c left) where
    pub went_fits : Fits r.q (image_of r.target left)
    went_fits = rw went.left (copied_fits r n images fit)

    pub went_on : r.b.0 + c.done ≤ address_count r.q
    went_on = rw went.done done_on

    pub kept : (before after : List ℕ) → after ≡ splice 0 (last_read r c.done left) before → CopiedBy x c before after left
    kept before after e = record {
      read = went.read;
      done = went.done;
      end = went.end;
      front =
          e ∙ ap (λ (l : List ℕ). splice 0 l before)
          (ap₂ {C = List ℕ} (λ (d : ℕ) (i : List (List ℕ)). last_read r d i) went.done went.left ∙ last_is x.done refl);
      left = went.left;
    }
