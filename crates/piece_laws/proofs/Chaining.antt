-- Chains of pieces, one after the other, and where they lead.
use Rattle.std.proofs.Common.{◌≡◌, ℕ, List, [], ◌∷◌, ◌++◌, Option, Some, None, Result, Ok, refl, sym, ap, ◌∙◌, subst, append_assoc}
use Rattle.std.specs.List.{concat, fold}
use Rattle.std.proofs.lemmas.List.Folds.{concat-append}
use Rattle.lefdef_tokens.specs.Laws.{BeginsApart}
use Rattle.statement_model.specs.Tokens.{Token}
use Rattle.statement_model.specs.Boundaries.{words}
use Rattle.statement_model.specs.Form.{whole}
use Rattle.statement_model.specs.Grammar.{Grammar}
use Rattle.statement_model.specs.Reading.{checked, formed}
use Rattle.piece_laws.specs.Pieces.{AreApart, IsPiece}
use Rattle.piece_laws.specs.ChainLaws.{ApartJoins, ChainsJoin, ChainsPart, ChainsLead, ModesJoin}

ok_same : {A F : Type 0} (x y : A) → ◌≡◌ {A = Result A F} (Ok x) (Ok y) → x ≡ y
ok_same x y e = cc

module _ {M R : Type 0} (g : Grammar M R) where
  -- where a form that reads leads
  checked_leads : (m after : M) (ps : List Token) (found rec : R) (bad : Option ℕ) → checked g m ps found bad ≡ Ok (rec, after) → after ≡ g.after m rec
  checked_leads m after ps found rec None e =
      let x : R × M = (found, g.after m found) in
      let y : R × M = (rec, after) in
      let same = ok_same x y e in
      sym (ap (λ (z : R × M). z.1) same) ∙ ap (λ (z : R × M). g.after m z.0) same
  checked_leads m after ps found rec (Some n) e = absurd (cc)

  formed_leads : (m after : M) (ps : List Token) (rec : R) (o : Option (R × Option ℕ)) → formed g m ps o ≡ Ok (rec, after) → after ≡ g.after m rec
  formed_leads m after ps rec None e = absurd (cc)
  formed_leads m after ps rec (Some x) e = checked_leads m after ps x.0 rec x.1 e

  pub piece_leads : (m after : M) (bytes : List ℕ) (rec : R) → IsPiece g m bytes rec after → after ≡ g.after m rec
  piece_leads m after bytes rec is = formed_leads m after is.statement rec (whole (g.form m) (words is.statement)) is.says

  pub chains_lead : ChainsLead g
  chains_lead first last [] [] chain = sym chain
  chains_lead first last [] (r ∷ rs) chain = absurd chain
  chains_lead first last (p ∷ ps) [] chain = absurd chain
  chains_lead first last (p ∷ ps) (r ∷ rs) chain =
      chains_lead chain.0 last ps rs chain.2 ∙ ap (λ (m : M). fold g.after m rs) (piece_leads first chain.0 p r chain.1)

  pub chains_join : ChainsJoin g
  chains_join first mid last [] qs [] ss here there = rw here there
  chains_join first mid last [] qs (r ∷ rs) ss here there = absurd here
  chains_join first mid last (p ∷ ps) qs [] ss here there = absurd here
  chains_join first mid last (p ∷ ps) qs (r ∷ rs) ss here there = (here.0, here.1, chains_join here.0 mid last ps qs rs ss here.2 there)

  pub chains_part : ChainsPart g
  chains_part first last [] qs recs chain = (first, [], recs, refl, refl, chain)
  chains_part first last (p ∷ ps) qs [] chain = absurd chain
  chains_part first last (p ∷ ps) qs (r ∷ recs) chain =
      let later = chains_part chain.0 last ps qs recs chain.2 in
      (later.0, r ∷ later.1, later.2, ap (λ (rs : List R). r ∷ rs) later.3, (chain.0, chain.1, later.4), later.5)

  pub modes_join : ModesJoin g
  modes_join m [] ss = refl
  modes_join m (r ∷ rs) ss = ap (λ (ms : List M). m ∷ ms) (modes_join (g.after m r) rs ss)

-- what comes behind pieces and then others
behind_both : (ps qs : List (List ℕ)) (rest : List ℕ) → concat (ps ++ qs) ++ rest ≡ concat ps ++ (concat qs ++ rest)
behind_both ps qs rest = ap (λ (t : List ℕ). t ++ rest) (concat-append ps qs) ∙ append_assoc (concat ps) (concat qs) rest

apart_first : (ps qs : List (List ℕ)) (rest : List ℕ) → AreApart (ps ++ qs) rest → AreApart ps (concat qs ++ rest) × AreApart qs rest
apart_first [] qs rest apart = (tt, apart)
apart_first (p ∷ ps) qs rest apart =
    let later = apart_first ps qs rest apart.1 in
    ((subst BeginsApart (behind_both ps qs rest) apart.0, later.0), later.1)

apart_both : (ps qs : List (List ℕ)) (rest : List ℕ) → AreApart ps (concat qs ++ rest) → AreApart qs rest → AreApart (ps ++ qs) rest
apart_both [] qs rest first others = others
apart_both (p ∷ ps) qs rest first others = (subst BeginsApart (sym (behind_both ps qs rest)) first.0, apart_both ps qs rest first.1 others)

pub apart_joins : ApartJoins
apart_joins ps qs rest = (apart_first ps qs rest, λ both. apart_both ps qs rest both.0 both.1)
