use Rattle.std.proofs.Common.{◌≡◌, ◌∙◌, ap, ap₂, sym, refl, arith, ℕ, List, ◌+◌, ◌-◌, ◌*◌, ◌≤◌, Bool, cond, length, take, drop}
use native.Mathlib.Nat.{add-sub_cancel_left}
use borrow.Author.Tests.{leb-true}
use lib.ListN.{length-drop}
use lib.Seq.{length-take-le}
use Rattle.codec.specs.Bytes.{with_bytes, bytes_at}
use Rattle.codec.proofs.Stores.{part-put}
use Rattle.show.specs.Samples.{damaged}
use Rattle.show.specs.Images.{part_of}
use Rattle.show.proofs.images.damage_in.Goals as goal

pub returns-in-Some : goal.returns-in-Some
unfolding bytes_at
returns-in-Some c =
    let a = c.args in
    let from = c.in-Some.from in
    let there = c.in-Some.ensures.0 in
    let is = c.in-Some.ensures.1 in
    let fits : a.block * a.size + a.size ≤ length a.image.now = leb-true _ _ there in
    let wide : from + a.size - from ≡ a.size = add-sub_cancel_left from a.size in
    let long : length (take (from + a.size - from) (drop from a.image.now)) ≡ a.size =
    ap (λ (n : ℕ). length (take n (drop from a.image.now))) wide ∙ length-take-le a.size (drop from a.image.now) (rw length-drop (omega arith)) in
    part-put a.image.now c.damage.new.b c.damage.new.b from a.size refl (c.damage.auto.b ∙ long)
    ∙ ap₂ (λ (at : ℕ) (bytes : List ℕ). with_bytes a.image.now at bytes) is
    (c.damage.ensures ∙ ap₂ (λ (n at : ℕ). damaged (take n (drop at a.image.now)) a.at a.value a.again) wide is)
    ∙ ap (λ (t : Bool). cond t (with_bytes a.image.now (a.block * a.size) (damaged (part_of a.image.now a.size a.block) a.at a.value a.again)) a.image.now) (sym there)
