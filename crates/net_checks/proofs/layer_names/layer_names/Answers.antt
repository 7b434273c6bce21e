use Rattle.std.proofs.Common.{rules, ◌≡◌, length}
use Rattle.net_checks.proofs.NameLemmas.{all_names, next_name}
use Rattle.net_checks.proofs.layer_names.layer_names.Goals as goal

pub loop-name-preserved : goal.loop-name-preserved
loop-name-preserved g c =
    let counted : c.len.result ≡ length c.loop-name.names.items = search rules in
    next_name (λ w. w.now) c.args.library.now.layers c.loop-name.names.items _ c.loop-name.invariant c.in-Some.name c.push.new.self.items (rw (counted) at c.in-Some.ensures) c.in_ok-push.ensures.items

pub returns : goal.returns
returns g c =
    let counted : c.len.result ≡ length c.loop-name.names.items = search rules in
    all_names (λ w. w.now) c.args.library.now.layers c.loop-name.names.items _ c.loop-name.invariant (rw (counted) at c.in_default.ensures)
