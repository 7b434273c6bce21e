use Rattle.std.proofs.Common.{◌≡◌, sym, ap, ◌∙◌, rules, map}
use Rattle.std.specs.Option.{option_map}
use Rattle.std.specs.Prelude.{false, true, ℕ, List}
use Rattle.std.proofs.lemmas.List.{append-nil}
use Rattle.design_model.specs.Views.{rectangle_of}
use Rattle.connection_rules.specs.NetLines.{is_barred}
use Rattle.net_touches.specs.Barriers.{barrier_view, name_at}
use Rattle.net_touches.specs.ShapeViews.{shape_view}
use Rattle.net_touches.proofs.LineLemmas.{no_routeblock, the_routeblock, barred_shares}
use Rattle.net_touches.proofs.line.put_routeblock.Goals as goal

pub returns-then-not-is_barred : goal.returns-then-not-is_barred
returns-then-not-is_barred g c =
    let names : ℕ → List ℕ = name_at (map (λ w. w.now) c.args.names.now) in
    let b = c.is_barred.ensures names in
    let no : is_barred names (shape_view c.args.shape.now) (barrier_view c.args.barrier.now) ≡ false = search rules in
    rw (no_routeblock names (shape_view c.args.shape.now) (barrier_view c.args.barrier.now) no) (sym (append-nil _))

pub returns-in_default : goal.returns-in_default
returns-in_default g c =
    let names : ℕ → List ℕ = name_at (map (λ w. w.now) c.args.names.now) in
    let b = c.is_barred.ensures names in
    let yes : is_barred names (shape_view c.args.shape.now) (barrier_view c.args.barrier.now) ≡ true = search rules in
    absurd (barred_shares names (shape_view c.args.shape.now) (barrier_view c.args.barrier.now) yes (sym (ap (option_map rectangle_of) c.in_default.is) ∙ c.common.ensures))

pub returns : goal.returns
returns g c =
    let names : ℕ → List ℕ = name_at (map (λ w. w.now) c.args.names.now) in
    let b = c.is_barred.ensures names in
    let yes : is_barred names (shape_view c.args.shape.now) (barrier_view c.args.barrier.now) ≡ true = search rules in
    let share = sym c.common.ensures ∙ ap (option_map rectangle_of) c.in-Some.is in
    rw (the_routeblock names (shape_view c.args.shape.now) (barrier_view c.args.barrier.now) (rectangle_of c.in-Some.shared) yes share) (search rules)
