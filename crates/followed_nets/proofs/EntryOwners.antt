-- What the entries of a net list, and then these, behind other statements.
use Rattle.std.proofs.Common.{◌≡◌, ◌∙◌, Bool, false, ◌||◌, List, ◌∷◌, ◌++◌, [], append_assoc, flat_map, refl, sym, ap, ap₂}
use Rattle.std.specs.List.{list_any}
use Rattle.std.proofs.lemmas.Grind.{flat_map-append}
use Rattle.std.proofs.lemmas.List.Folds.{list_any-append}
use Rattle.def_grammar.specs.Records.{Record}
use Rattle.def_grammar.specs.Terminals.{Terminal, is_of_all}
use Rattle.net_laws.specs.NetsTold.{terminals_of}
use Rattle.followed_nets.specs.Owners.{HasEntries, HasOwners, owner_in, owners_in}

pub both : (design : List Record) (e : Record) (es old with_first with_all new : List Record) → HasOwners design (terminals_of e) old with_first → HasOwners design (flat_map terminals_of es) with_first with_all
    → new ≡ (with_all ++ e ∷ []) ++ es → HasEntries design (e ∷ es) old new
both design e es old with_first with_all new one two is = record {
  named = list_any-append is_of_all (terminals_of e) (flat_map terminals_of es) ∙ ap₂ (λ (a b : Bool). a || b) one.named two.named;
  new_is =
      is
      ∙ append_assoc with_all (e ∷ []) es
      ∙ ap (λ (l : List Record). l ++ e ∷ es)
      (two.new_is
      ∙ ap (λ (l : List Record). l ++ owners_in design (flat_map terminals_of es)) one.new_is
      ∙ append_assoc old (owners_in design (terminals_of e)) (owners_in design (flat_map terminals_of es))
      ∙ ap (λ (l : List Record). old ++ l) (sym (flat_map-append (owner_in design) (terminals_of e) (flat_map terminals_of es))));
}
