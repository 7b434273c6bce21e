use Rattle.std.proofs.Common.{◌≡◌, ◌++◌, ◌∷◌, [], false, rules}
use Rattle.net_laws.specs.NetChanges.{is_one_of}
use Rattle.followed_nets.proofs.ListedNets.{still_apart}
use Rattle.followed_nets.proofs.listed.add_name.Goals as goal

pub returns-in_ok-push-clause-apart : goal.returns-in_ok-push-clause-apart
returns-in_ok-push-clause-apart g c = λ apart.
    let nets = c.args.nets.now.items in
    let name = c.args.name.now in
    let other : is_one_of nets name ≡ false = search rules in
    let put : c.push.new.self.items ≡ nets ++ name ∷ [] = search rules in
    rw put (still_apart nets name other apart)
