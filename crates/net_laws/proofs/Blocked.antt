-- Where routing is blocked, where statements are exchanged.
use Rattle.std.proofs.Common.{◌≡◌, ◌∙◌, ◌+◌, ℕ, List, [], ◌∷◌, ◌++◌, refl, arith, sum_by}
use Rattle.std.specs.Prelude.{flat_map}
use Rattle.std.proofs.lemmas.List.Concat.{flat_map-append}
use Rattle.std.proofs.lemmas.List.Sums.{sum_by-append}
use Rattle.design_model.specs.Families.{cross_lines, pair_lines}
use Rattle.def_grammar.specs.Records.{Record}
use Rattle.lef_grammar.specs.Library.{Library}
use Rattle.connection_rules.specs.NetLines.{Barrier, NetShape, barriers_of, class_lines, routeblock_of, shapes_of_net, short_of}
use Rattle.connection_rules.specs.NetParts.{Net}
use Rattle.line_laws.specs.Lines.{SameThings, times}
use Rattle.line_laws.proofs.PairSums.{times-append}
use Rattle.following_laws.specs.Following.{Exchange, LinesFollow}
use Rattle.following_laws.proofs.FamilyLemmas.{crosses_follow, lines_that_stay, parts_follow, same_lines_follow}
use Rattle.net_laws.specs.Blocked.{BarredLinesFollow, BarsAreExchanged, bars_in}

-- those of statements between others go out, or come in
between : (library : Library) (front some behind : List Record) → SameThings (bars_in library (front ++ (some ++ behind))) (bars_in library some ++ bars_in library (front ++ behind))
between library front some behind = record {
  sums = λ w.
      let bars = bars_in library in
      let f = barriers_of library.layers in
      let a : sum_by w (bars (front ++ (some ++ behind))) ≡ sum_by w (bars front ++ (bars some ++ bars behind)) =
      rw (flat_map-append f front (some ++ behind), flat_map-append f some behind) refl in
      let b : sum_by w (bars (front ++ behind)) ≡ sum_by w (bars front ++ bars behind) = rw (flat_map-append f front behind) refl in
      omega (
        arith,
        a,
        b,
        sum_by-append w (bars front) (bars some ++ bars behind),
        sum_by-append w (bars some) (bars behind),
        sum_by-append w (bars front) (bars behind),
        sum_by-append w (bars some) (bars (front ++ behind)),
      );
}

pub bars_are_exchanged : BarsAreExchanged
bars_are_exchanged library front out put behind = record { old_is = between library front out behind; new_is = between library front put behind }

-- lines that go, or come, with none of nets that stay
crossed : (name_of : ℕ → List ℕ) (shapes : List NetShape) (some : List Barrier) (q : List ℕ)
    → times q ([] ++ ((cross_lines (routeblock_of name_of) [] some ++ cross_lines (routeblock_of name_of) shapes some) ++ [])) ≡ times q (cross_lines (routeblock_of name_of) shapes some)
crossed name_of shapes some q =
    let lines = cross_lines (routeblock_of name_of) shapes some in
    omega (arith, times-append q [] ((cross_lines (routeblock_of name_of) [] some ++ lines) ++ []), times-append q (cross_lines (routeblock_of name_of) [] some ++ lines) [], times-append q (cross_lines (routeblock_of name_of) [] some) lines)

pub barred_lines_follow : BarredLinesFollow
barred_lines_follow name_of nets old new out put stay e =
    let shapes = flat_map shapes_of_net nets in
    let same : Exchange shapes shapes [] [] shapes = record { old_is = record { sums = λ w. refl }; new_is = record { sums = λ w. refl } } in
    let cross = crosses_follow NetShape Barrier (routeblock_of name_of) shapes shapes [] [] shapes old new out put stay same e in
    let all = parts_follow _ _ _ _ _ _ _ _ (lines_that_stay (pair_lines (short_of name_of) shapes)) (parts_follow _ _ _ _ _ _ _ _ cross (lines_that_stay (flat_map class_lines nets))) in
    same_lines_follow _ _ _ _ _ _ _ _ (record { often = λ q. refl }) (record { often = λ q. refl }) (record { often = crossed name_of shapes out }) (record { often = crossed name_of shapes put }) all
