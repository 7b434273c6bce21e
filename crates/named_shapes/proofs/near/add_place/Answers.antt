use Rattle.std.proofs.Common.{rules, ◌≡◌, ◌==◌, ◌++◌, ◌∷◌, [], true}
use Rattle.std.specs.List.{list_any}
use Rattle.named_shapes.proofs.TouchingLemmas.{among_them, pushed_none}
use Rattle.named_shapes.proofs.near.add_place.Goals as goal

pub returns-in_ok-push : goal.returns-in_ok-push
returns-in_ok-push g c = λ test none.
    let put : c.push.new.self.items ≡ c.args.places.now.items ++ c.args.place ∷ [] = search rules in
    pushed_none test c.args.places.now.items c.push.new.self.items c.args.place put none

pub returns-else-not-is_one_of : goal.returns-else-not-is_one_of
returns-else-not-is_one_of g c = λ test none.
    let there : list_any (λ p. p == c.args.place) c.args.places.now.items ≡ true = search rules in
    (none, among_them test c.args.place c.args.places.now.items there none)
