-- The lines of a design that follow a change of it.
use Rattle.std.proofs.Common.{◌≡◌, ◌+◌, ℕ, List, [], ◌∷◌, ◌++◌, refl, arith, sum_by, subst}
use Rattle.std.specs.List.{flat_map}
use Rattle.std.proofs.lemmas.List.Sums.{sum_by-append, sum_by-cons}
use Rattle.design_model.specs.Geometry.{Rectangle}
use Rattle.def_grammar.specs.Records.{Record}
use Rattle.connection_rules.specs.NetLines.{Barrier, NetShape, class_lines, net_lines, routeblock_of, shapes_of_net, short_of}
use Rattle.connection_rules.specs.NetParts.{Net}
use Rattle.design_rules.specs.Boxes.{Boxed, scale}
use Rattle.design_rules.specs.CountLines.{count_lines}
use Rattle.design_rules.specs.OverlapLines.{overlap_lines, overlap_of}
use Rattle.design_rules.specs.PlaceLines.{blocked_of, lines_in, place_lines}
use Rattle.entry_rules.specs.Unchecked.{unchecked_in_library}
use Rattle.line_laws.specs.Lines.{SameLines, SameThings, times}
use Rattle.line_laws.proofs.Overlaps.{overlaps_are_symmetric}
use Rattle.line_laws.proofs.PairSums.{times-append}
use Rattle.report_rules.specs.Diagnostics.{all_lines, statement_lines}
use Rattle.agreement_laws.proofs.FollowLemmas.{same_all, same_shown}
use Rattle.following_laws.specs.DesignLaws.{ComponentLinesFollow, DiagnosticsFollow, NetLinesFollow, StatementsFollow}
use Rattle.following_laws.specs.Following.{Exchange, LinesFollow}
use Rattle.following_laws.proofs.FamilyLemmas.{crosses_follow, each_follows, lines_that_stay, pairs_follow, parts_follow, same_lines_follow}

-- what stands between others goes out, or comes in
between : {A : Type 0} (front some behind : List A) → SameThings (front ++ (some ++ behind)) (some ++ (front ++ behind))
between front some behind = record {
  sums = λ w. omega (arith, sum_by-append w front (some ++ behind), sum_by-append w some behind, sum_by-append w some (front ++ behind), sum_by-append w front behind);
}

pub statements_follow : StatementsFollow
statements_follow library front out put behind same =
    let old = front ++ (out ++ behind) in
    let new = front ++ (put ++ behind) in
    let f = statement_lines library old in
    let g = statement_lines library new in
    let told : flat_map f new ≡ flat_map g new = same_all f g (λ r. same_shown library old new r same) new in
    let x = each_follows Record f old new out put (front ++ behind) (record { old_is = between front out behind; new_is = between front put behind }) in
    subst (λ (ls : List (List ℕ)). LinesFollow (flat_map f old) ls (flat_map f out) (flat_map f put)) told x

pub component_lines_follow : ComponentLinesFollow
component_lines_follow s old new out put stay old' new' out' put' stay' e f =
    let pairs = pairs_follow Boxed overlap_of old new out put stay overlaps_are_symmetric e in
    let each = each_follows Boxed (lines_in s) old new out put stay e in
    let cross = crosses_follow Boxed Rectangle blocked_of old new out put stay old' new' out' put' stay' e f in
    parts_follow _ _ _ _ _ _ _ _ pairs (parts_follow _ _ _ _ _ _ _ _ each cross)

-- the shapes of nets, where some nets go out and others come in
shapes-parted : (xs some rest : List Net) → SameThings xs (some ++ rest) → SameThings (flat_map shapes_of_net xs) (flat_map shapes_of_net some ++ flat_map shapes_of_net rest)
shapes-parted xs some rest s = record {
  sums = λ w.
      let v = λ (n : Net). sum_by w (shapes_of_net n) in
      let h = s.sums v in
      omega (arith, h, sum_by-append v some rest, sum_by-append w (flat_map shapes_of_net some) (flat_map shapes_of_net rest), sum-flat w xs, sum-flat w some, sum-flat w rest);
}
  where
    sum-flat : (w : NetShape → ℕ) (ns : List Net) → sum_by w (flat_map shapes_of_net ns) ≡ sum_by (λ (n : Net). sum_by w (shapes_of_net n)) ns
    sum-flat w [] = refl
    sum-flat w (n ∷ ns) =
        let r = sum-flat w ns in
        omega (arith, r, sum_by-append w (shapes_of_net n) (flat_map shapes_of_net ns), sum_by-cons (λ (n : Net). sum_by w (shapes_of_net n)) n ns)

pub net_lines_follow : NetLinesFollow
net_lines_follow name_of old new out put stay old' new' out' put' stay' s e f =
    let shapes = flat_map shapes_of_net in
    let g : Exchange (shapes old) (shapes new) (shapes out) (shapes put) (shapes stay) =
    record { old_is = shapes-parted old out stay e.old_is; new_is = shapes-parted new put stay e.new_is } in
    let pairs = pairs_follow NetShape (short_of name_of) (shapes old) (shapes new) (shapes out) (shapes put) (shapes stay) s g in
    let cross = crosses_follow NetShape Barrier (routeblock_of name_of) (shapes old) (shapes new) (shapes out) (shapes put) (shapes stay) old' new' out' put' stay' g f in
    let each = each_follows Net class_lines old new out put stay e in
    parts_follow _ _ _ _ _ _ _ _ pairs (parts_follow _ _ _ _ _ _ _ _ cross each)

-- all lines are those of the families, with those on the library between
joined : (counts statements library places nets : List (List ℕ)) (q : List ℕ)
    → times q (counts ++ (statements ++ (places ++ nets))) + times q library ≡ ((times q counts + times q statements) + (times q places + times q nets)) + times q library
joined counts statements library places nets q =
    omega (arith, times-append q counts (statements ++ (places ++ nets)), times-append q statements (places ++ nets), times-append q places nets)

all-joined : (library : _) (design : List Record)
    → SameLines (unchecked_in_library library ++ (count_lines design ++ (flat_map (statement_lines library design) design ++ ((overlap_lines library design ++ place_lines library design) ++ net_lines library design (scale design)))))
    (all_lines library design)
all-joined library design = record {
  often = λ q.
      let c = count_lines design in
      let s = flat_map (statement_lines library design) design in
      let l = unchecked_in_library library in
      let o = overlap_lines library design in
      let p = place_lines library design in
      let n = net_lines library design (scale design) in
      omega (
        arith,
        times-append q l (c ++ (s ++ ((o ++ p) ++ n))),
        times-append q c (s ++ ((o ++ p) ++ n)),
        times-append q s ((o ++ p) ++ n),
        times-append q (o ++ p) n,
        times-append q o p,
        times-append q c (s ++ (l ++ (o ++ (p ++ (n ++ []))))),
        times-append q s (l ++ (o ++ (p ++ (n ++ [])))),
        times-append q l (o ++ (p ++ (n ++ []))),
        times-append q o (p ++ (n ++ [])),
        times-append q p (n ++ []),
        times-append q n [],
      );
}

pub diagnostics_follow : DiagnosticsFollow
diagnostics_follow library old new f =
    let all = parts_follow _ _ _ _ _ _ _ _ (lines_that_stay (unchecked_in_library library))
    (parts_follow _ _ _ _ _ _ _ _ f.counts (parts_follow _ _ _ _ _ _ _ _ f.statements (parts_follow _ _ _ _ _ _ _ _ f.places f.nets))) in
    same_lines_follow _ _ _ _ _ _ _ _ (all-joined library old) (all-joined library new) (record { often = λ q. refl }) (record { often = λ q. refl }) all
