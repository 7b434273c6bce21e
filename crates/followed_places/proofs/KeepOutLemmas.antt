-- Rectangles that keep components out, under the numbers of their statements and without.
use Rattle.std.proofs.Common.{◌≡◌, ◌∙◌, List, [], ◌∷◌, ◌++◌, append_assoc, ap, ap₂, map, refl, sum_by, sym}
use Rattle.std.proofs.lemmas.List.{append-nil, map-append}
use Rattle.def_grammar.specs.Records.{Record}
use Rattle.design_model.specs.Geometry.{Rectangle}
use Rattle.design_model.specs.declared.identifier.StmtId.{StmtId}
use Rattle.design_rules.specs.Surroundings.{keep_out_of, keep_outs}
use Rattle.line_laws.specs.Lines.{SameThings}
use Rattle.line_laws.proofs.SameSums.{maps_are_same}
use Rattle.followed_places.specs.Places.{keep_outs_under, said}

abbrev pub rects_of : List (StmtId × Rectangle) → List Rectangle
rects_of outs = map (λ x. x.1) outs

without_number : (id : StmtId) (rs : List Rectangle) → rects_of (map (λ r. (id, r)) rs) ≡ rs
without_number id [] = refl
without_number id (r ∷ rs) = ap (λ (l : List Rectangle). r ∷ l) (without_number id rs)

pub outs_said : (rs : List (StmtId × Record)) → rects_of (keep_outs_under rs) ≡ keep_outs (said rs)
outs_said [] = refl
outs_said (x ∷ rs) =
    map-append (λ (o : StmtId × Rectangle). o.1) (map (λ r. (x.0, r)) (keep_outs (x.1 ∷ []))) (keep_outs_under rs)
    ∙ ap₂ (λ (a b : List Rectangle). a ++ b) (without_number x.0 (keep_outs (x.1 ∷ [])) ∙ append-nil (keep_out_of x.1)) (outs_said rs)

pub outs_as_said : (outs : List (StmtId × Rectangle)) (rs : List (StmtId × Record)) → SameThings outs (keep_outs_under rs) → SameThings (keep_outs (said rs)) (rects_of outs)
outs_as_said outs rs same = record {
  sums = λ w. ap (sum_by w) (sym (outs_said rs)) ∙ sym ((maps_are_same (StmtId × Rectangle) Rectangle (λ x. x.1) outs (keep_outs_under rs) same).sums w);
}

-- those of one statement more are put behind
pub one_said : (old new all : List (StmtId × Rectangle)) (x : StmtId × Record) (rest : List (StmtId × Record)) (rects : List Rectangle) → rects ≡ keep_outs (x.1 ∷ []) → new ≡ old ++ map (λ r. (x.0, r)) rects
    → old ++ keep_outs_under (x ∷ rest) ≡ all → new ++ keep_outs_under rest ≡ all
one_said old new all x rest rects are put so_far =
    ap (λ (l : List (StmtId × Rectangle)). l ++ keep_outs_under rest) (put ∙ ap (λ (rs : List Rectangle). old ++ map (λ r. (x.0, r)) rs) are)
    ∙ append_assoc old (map (λ r. (x.0, r)) (keep_outs (x.1 ∷ []))) (keep_outs_under rest)
    ∙ so_far
