use Rattle.std.proofs.Common.{rules, ◌≡◌, ◌∙◌, ◌<◌, ◌≤◌, Bool, true, false, not, ap, arith, length, map, refl, sym}
use Rattle.std.specs.Str.{bytes_eq}
use Rattle.std.proofs.lemmas.List.{take_all}
use Rattle.std.proofs.lemmas.Slice.Eq.{bytes_eq-Decides}
use Rattle.connection_rules.specs.NetParts.{Net}
use Rattle.followed_nets.specs.Stars.{names_of}
use Rattle.followed_nets.specs.ToldViews.{star_view}
use Rattle.followed_nets.specs.Touched.{StarPins}
use Rattle.followed_nets.proofs.NoteLemmas.{names_seen, same_so_far}
use Rattle.followed_nets.proofs.touched.are_named.Goals as goal

truth : (b : Bool) → not b ≡ false → b ≡ true
truth true h = refl
truth false h = absurd (cc)

pub loop-place-preserved : goal.loop-place-preserved
loop-place-preserved g c =
    let below : c.loop-place.place < length c.args.told.now = search rules in
    let there : c.loop-place.place < length c.args.stars.now = search rules in
    let alike : c.name.result.now ≡ c.bytes.result.now = (bytes_eq-Decides c.name.result.now c.bytes.result.now).0 (truth (bytes_eq c.name.result.now c.bytes.result.now) (sym c.ne.ensures ∙ c.if-ne.false)) in
    let told_name : (star_view c.index-told-place.result).name ≡ c.bytes.result.now = ap (λ t. (star_view t).name) c.index-told-place.is ∙ sym c.bytes.ensures in
    let own_name : c.name.result.now ≡ c.index-stars-place.result.name = c.name.ensures in
    let same : (star_view c.index-told-place.result).name ≡ c.index-stars-place.result.name = told_name ∙ (sym alike ∙ own_name) in
    same_so_far (λ t. (star_view t).name) (λ (n : Net). n.name) c.args.told.now c.args.stars.now c.loop-place.place c.index-told-place.result c.index-stars-place.result below c.index-told-place.is there c.index-stars-place.is same c.loop-place.invariant

pub returns : goal.returns
returns g c = λ yes.
    let all : length c.args.stars.now ≤ c.loop-place.place = omega (arith, c.loop-place-test.false) in
    let told : length c.args.told.now ≤ c.loop-place.place = omega (arith, c.loop-place-test.false, c.if-stars-told.false) in
    names_seen star_view (λ (p : StarPins). p.name) c.args.told.now
    ∙ sym (ap (map (λ t. (star_view t).name)) (take_all c.loop-place.place c.args.told.now told))
    ∙ c.loop-place.invariant
    ∙ ap names_of (take_all c.loop-place.place c.args.stars.now all)
