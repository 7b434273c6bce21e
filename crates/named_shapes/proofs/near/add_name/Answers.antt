use Rattle.std.proofs.Common.{rules, ◌≡◌, ◌++◌, ◌∷◌, []}
use Rattle.named_shapes.proofs.TouchingLemmas.{put_known, stays_known}
use Rattle.named_shapes.proofs.near.add_name.Goals as goal

pub returns-in_ok-push-clause-known : goal.returns-in_ok-push-clause-known
returns-in_ok-push-clause-known g c =
    let name = c.in-Some.name.now in
    let pushed : c.push.new.self.items ≡ c.args.found.now.items ++ name ∷ [] = search rules in
    put_known c.args.names.now c.args.place name c.args.found.now.items c.push.new.self.items c.in-Some.ensures pushed

pub returns-in_ok-push-clause-stay : goal.returns-in_ok-push-clause-stay
returns-in_ok-push-clause-stay g c = λ n known.
    let name = c.in-Some.name.now in
    let pushed : c.push.new.self.items ≡ c.args.found.now.items ++ name ∷ [] = search rules in
    stays_known c.args.names.now name c.args.found.now.items c.push.new.self.items pushed n known
