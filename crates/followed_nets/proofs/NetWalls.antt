-- The lines of one net with rectangles where routing is blocked.
use Rattle.std.proofs.Common.{◌≡◌, ◌∙◌, ℕ, Bool, not, List, [], ◌∷◌, ◌++◌, map, sum_by, refl, sym, ap, ap₂, arith, subst}
use Rattle.std.specs.Prelude.{flat_map}
use Rattle.std.proofs.lemmas.List.{append-nil}
use Rattle.design_model.specs.Families.{cross_lines}
use Rattle.def_grammar.specs.Records.{Record}
use Rattle.lef_grammar.specs.Library.{Library}
use Rattle.connection_rules.specs.NetLines.{Barrier, NetShape, routeblock_of, shapes_of_net}
use Rattle.connection_rules.specs.NetParts.{Net, Part, net_named}
use Rattle.design_rules.specs.Boxes.{scale}
use Rattle.line_laws.specs.Lines.{SameLines, SameThings, times}
use Rattle.line_laws.proofs.PairSums.{times-append, times-flat_map}
use Rattle.net_laws.specs.OneNet.{TellNet}
use Rattle.net_laws.specs.PinLines.{shapes_of_parts}
use Rattle.net_laws.specs.StarNets.{EntriesTell}
use Rattle.followed_nets.specs.Blocked.{Adds, barred_lines}
use Rattle.followed_nets.specs.Stars.{IsStar}
use Rattle.followed_nets.proofs.PinPieces.{net_splits}

module _ (name_of : ℕ → List ℕ) (library : Library) (design : List Record) (bars : List Barrier) where
  abbrev walls : List NetShape → List (List ℕ)
  walls shapes = cross_lines (routeblock_of name_of) shapes bars

  -- a net that is alone in a list
  pub put_alone : (net : List ℕ) (nets : List Net) (before after : List (List ℕ)) → nets ≡ net_named library design (scale design) net ∷ [] → after ≡ before ++ walls (flat_map shapes_of_net nets)
      → Adds before (barred_lines name_of library design bars net) after
  put_alone net nets before after alone put = record {
    same = record {
      often = λ q.
          ap (times q)
          (put
          ∙ ap (λ (ns : List Net). before ++ walls (flat_map shapes_of_net ns)) alone
          ∙ ap (λ (ss : List NetShape). before ++ walls ss) (append-nil (shapes_of_net (net_named library design (scale design) net))));
    };
  }

  -- a net that is kept with its parts, in whatever order
  module _ (star : Net) (is : IsStar library design star) where
    abbrev own : Net
    own = net_named library design (scale design) star.name

    same_shapes : SameThings (shapes_of_net own) (shapes_of_parts star star.parts)
    same_shapes =
        let parts : SameThings own.parts (star.parts ++ []) = record { sums = λ w. sym (is.net.same_parts.sums w) ∙ ap (sum_by w) (sym (append-nil star.parts)) } in
        let alike : shapes_of_parts own star.parts ≡ shapes_of_parts star star.parts = ap (λ (power : Bool). shapes_of_parts (record { name = star.name; is_power = power; parts = [] }) star.parts) (sym is.net.same_power) in
        record { sums = λ w. (net_splits own star.parts [] parts).shapes.sums w ∙ ap (sum_by w) (append-nil (shapes_of_parts own star.parts) ∙ alike) }

    same_walls : (q : List ℕ) → times q (walls (shapes_of_net own)) ≡ times q (walls (shapes_of_net star))
    same_walls q =
        times-flat_map q (λ (s : NetShape). flat_map (routeblock_of name_of s) bars) (shapes_of_net own)
        ∙ same_shapes.sums (λ (s : NetShape). times q (flat_map (routeblock_of name_of s) bars))
        ∙ sym (times-flat_map q (λ (s : NetShape). flat_map (routeblock_of name_of s) bars) (shapes_of_net star))

    pub put_star : (net : List ℕ) (before after : List (List ℕ)) → star.name ≡ net → after ≡ before ++ walls (shapes_of_net star) → Adds before (barred_lines name_of library design bars net) after
    put_star net before after named put =
        subst (λ (n : List ℕ). Adds before (barred_lines name_of library design bars n) after) named
        (record {
          same = record {
            often = λ q.
                let all = ap (times q) put in
                let same = same_walls q in
                omega (arith, all, same, times-append q before (walls (shapes_of_net star)), times-append q before (walls (shapes_of_net own)));
          };
        })

-- it is told by its entries
pub star_tells : EntriesTell → (library : Library) (design : List Record) (star : Net) (net : List ℕ) → IsStar library design star → star.name ≡ net → (some : List Record) × TellNet some design net
star_tells law library design star net is named = subst (λ (n : List ℕ). (some : List Record) × TellNet some design n) named (law design star.name is.entry is.others is.entries)
