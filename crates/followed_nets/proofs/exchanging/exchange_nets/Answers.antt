use Rattle.std.proofs.Common.{◌∷◌, arith, map}
use Rattle.net_touches.specs.Barriers.{name_at}
use Rattle.followed_nets.specs.ToldViews.{told_view}
use Rattle.followed_nets.proofs.ChangedShapes.{again, are_whole, fewer_near, staying, whole, without}
use Rattle.followed_nets.proofs.ShortLines.{same_shorts}
use Rattle.followed_nets.proofs.exchanging.exchange_nets.Goals as goal

pub take_out_nets-requires : goal.take_out_nets-requires
take_out_nets-requires g c =
    let layers = name_at (map (λ w. w.now) c.args.layers.now) in
    let sorted = c.same_lines_sort_alike.ensures in
    let symmetric = same_shorts c.short_is_symmetric.ensures layers in
    let bars = c.requires.0 in
    let told = c.in_ok-gone.ensures in
    let there = without layers bars sorted symmetric _ _ told.0 told.1 c.requires.3 c.args.shapes.now c.args.start.lines.lines c.requires.1 c.requires.4 c.requires.6 in
    (bars, map (whole layers bars) _, staying layers bars sorted symmetric told.0 ∷ c.requires.3, are_whole layers bars _, there)

pub put_in_nets-requires : goal.put_in_nets-requires
put_in_nets-requires g c =
    let layers = name_at (map (λ w. w.now) c.args.layers.now) in
    let sorted = c.same_lines_sort_alike.ensures in
    let symmetric = same_shorts c.short_is_symmetric.ensures layers in
    let bars = c.requires.0 in
    let told = c.in_ok-gone.ensures in
    let there = without layers bars sorted symmetric _ _ told.0 told.1 c.requires.3 c.args.shapes.now c.args.start.lines.lines c.requires.1 c.requires.4 c.requires.6 in
    let stay = staying layers bars sorted symmetric told.0 ∷ c.requires.3 in
    let left = rw (c.in-Some.is) at (c.in_ok-left.ensures.follows bars (map (whole layers bars) (map told_view c.in_ok-gone.field-0.gone.items)) stay (are_whole layers bars (map told_view c.in_ok-gone.field-0.gone.items)) there) in
    let come = map told_view c.in_ok-gone.field-0.come.items in
    (bars, map (whole layers bars) come, stay, are_whole layers bars come, left)

pub returns-clause-lines : goal.returns-clause-lines
returns-clause-lines g c = λ bars out put rest goes comes had.
    let layers = name_at (map (λ w. w.now) c.args.layers.now) in
    let sorted = c.same_lines_sort_alike.ensures in
    let symmetric = same_shorts c.short_is_symmetric.ensures layers in
    let told = c.in_ok-gone.ensures in
    let there = without layers bars sorted symmetric _ _ told.0 told.1 rest c.args.shapes.now c.args.start.lines.lines out goes had in
    let stay = staying layers bars sorted symmetric told.0 ∷ rest in
    let left = rw (c.in-Some.is) at (c.in_ok-left.ensures.follows bars (map (whole layers bars) (map told_view c.in_ok-gone.field-0.gone.items)) stay (are_whole layers bars (map told_view c.in_ok-gone.field-0.gone.items)) there) in
    let now = rw (c.in-Some-2.is) at (c.in_ok-followed.ensures.follows bars (map (whole layers bars) (map told_view c.in_ok-gone.field-0.come.items)) stay (are_whole layers bars (map told_view c.in_ok-gone.field-0.come.items)) left) in
    again layers bars sorted symmetric _ _ told.0 told.2 rest c.put_in_nets.new.shapes c.in-Some-2.followed.lines.lines put comes now

pub returns-clause-tests : goal.returns-clause-tests
returns-clause-tests g c =
    let told = c.in_ok-gone.ensures in
    let out = rw (c.in-Some.is) at c.in_ok-left.ensures.tests in
    let put = rw (c.in-Some-2.is) at c.in_ok-followed.ensures.tests in
    let few = fewer_near _ _ told.0 told.1 c.args.shapes.now in
    let then_few = fewer_near _ _ told.0 told.2 c.put_in_nets.new.shapes in
    omega (arith, out, put, few, then_few)
