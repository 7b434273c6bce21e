-- The steps over the clauses of a text, in a section of nets.
use Rattle.std.proofs.Common.{◌≡◌, ◌<◌, ℕ, Bool, true, false, List, [], ◌∷◌, length, Some, None, is_none, refl, ap, ◌∙◌, ⊎_elim, codes}
use Rattle.std.proofs.lemmas.Bool.{cases_Bool as cases}
use Rattle.form_meanings.specs.Words.{Rest, is_done}
use Rattle.def_grammar.specs.Clauses.{KeptClause}
use Rattle.def_grammar.specs.Nets.{net_clause, net_listed}
use Rattle.def_grammar.specs.SpecialNets.{special_clause, special_listed}
use Rattle.edit_rules.specs.NetEdits.{is_one_of, is_wiring, kept_role, net_role, special_role}
use Rattle.wire_parts.specs.NetViews.{net_by_word}
use Rattle.wire_parts.specs.SpecialNetViews.{special_by_word}
use Rattle.net_wiring.specs.WiringViews.{is_ended, past_body_in, past_clause_in, said_from, special_words}
use Rattle.net_wiring.specs.declared.wiring_clauses.NetSection.{NetSection}
use Rattle.net_wiring.specs.declared.wiring_clauses.NetSection.TheVariants as sections
use Rattle.net_wiring.proofs.ClosedForms.{Closes, alt_closes, behind_closes, word_closes}
use Rattle.net_wiring.proofs.ClosedWiring.{name_closes, special_shape_closes, wiring_closes}
use Rattle.net_wiring.proofs.TextSteps.{Going, ends, goes, going, past_fewer, stops}

net_body_closes : Closes net_by_word.of
net_body_closes = alt_closes _ _ _ refl (behind_closes _ _ refl (word_closes _ refl)) (alt_closes _ _ _ refl (behind_closes _ _ refl name_closes) wiring_closes)

special_body_closes : Closes special_by_word.of
special_body_closes =
    alt_closes _ _ _ refl (behind_closes _ _ refl (word_closes _ refl)) (alt_closes _ _ _ refl (behind_closes _ _ refl (word_closes _ refl)) (
    alt_closes _ _ _ refl (behind_closes _ _ refl (word_closes _ refl)) special_shape_closes))

kept_is_none : (begins : List (List ℕ)) (k : KeptClause) → is_wiring (kept_role begins k) ≡ false
kept_is_none begins k = ⊎_elim
    (λ (is : is_one_of begins k.keyword ≡ true). rw is refl)
    (λ (isnt : is_one_of begins k.keyword ≡ false). rw isnt refl)
    (cases (is_one_of begins k.keyword))

abbrev net_words : List (List ℕ)
net_words = codes "ROUTED" ∷ codes "FIXED" ∷ codes "COVER" ∷ codes "NOSHIELD" ∷ []

-- what is left of a text of a section
data Step (r : Rest) (section : NetSection) : Type 0 where
  stopped : is_ended (past_body_in r section) ≡ false → past_clause_in r section ≡ None → said_from r section ≡ false → Step r section
  ended : (e : Rest) → past_body_in r section ≡ Some e → is_done e ≡ true → said_from r section ≡ is_none e.bad → Step r section
  going_on : (e : Rest) → is_ended (past_body_in r section) ≡ false → past_clause_in r section ≡ Some e → said_from r section ≡ said_from e section → Step r section

net_step : (r : Rest) → Going net_by_word net_role r → Step r sections.Nets
unfolding net_clause net_listed
net_step r (stops a b c) = stopped a b c
net_step r (ends e a b c) = ended e a b c
net_step r (goes e a b c) = going_on e a b c

special_step : (r : Rest) → Going special_by_word special_role r → Step r sections.SpecialNets
unfolding special_clause special_listed
special_step r (stops a b c) = stopped a b c
special_step r (ends e a b c) = ended e a b c
special_step r (goes e a b c) = going_on e a b c

step : (r : Rest) (section : NetSection) → Step r section
step r sections.Nets = net_step r (going net_by_word net_role net_body_closes (λ tokens. refl) (kept_is_none net_words) r)
step r sections.SpecialNets = special_step r (going special_by_word special_role special_body_closes (λ tokens. refl) (kept_is_none special_words) r)

true_false : (b : Bool) → b ≡ true → b ≡ false → ⊥
true_false b is isnt = cc

-- at the last clause
pub said_at_end : (r e : Rest) (section : NetSection) → past_body_in r section ≡ Some e → is_done e ≡ true → said_from r section ≡ is_none e.bad
said_at_end r e section past done = by_step (step r section)
  where
    is : is_ended (past_body_in r section) ≡ true
    is = ap is_ended past ∙ done

    by_step : Step r section → said_from r section ≡ is_none e.bad
    by_step (stopped unended none unsaid) = absurd (true_false _ is unended)
    by_step (ended end own own_done so) = let same : end ≡ e = cc in so ∙ ap (λ (x : Rest). is_none x.bad) same
    by_step (going_on later unended own so) = absurd (true_false _ is unended)

-- before another
module _ (r : Rest) (section : NetSection) (unended : is_ended (past_body_in r section) ≡ false) where
  pub said_none : past_clause_in r section ≡ None → said_from r section ≡ false
  said_none none = by_step (step r section)
    where
      by_step : Step r section → said_from r section ≡ false
      by_step (stopped own none_past so) = so
      by_step (ended end past done so) = absurd (true_false _ (ap is_ended past ∙ done) unended)
      by_step (going_on later own past so) = absurd (cc)

  pub said_later : (e : Rest) → past_clause_in r section ≡ Some e → said_from r section ≡ said_from e section
  said_later e past = by_step (step r section)
    where
      by_step : Step r section → said_from r section ≡ said_from e section
      by_step (stopped own none_past so) = absurd (cc)
      by_step (ended end own done so) = absurd (true_false _ (ap is_ended own ∙ done) unended)
      by_step (going_on later own own_past so) = let same : later ≡ e = cc in so ∙ ap (λ (x : Rest). said_from x section) same

net_fewer : (r e : Rest) → past_clause_in r sections.Nets ≡ Some e → length e.words < length r.words
unfolding net_clause net_listed
net_fewer r e past = past_fewer net_by_word net_role net_body_closes (λ tokens. refl) (kept_is_none net_words) r e past

special_fewer : (r e : Rest) → past_clause_in r sections.SpecialNets ≡ Some e → length e.words < length r.words
unfolding special_clause special_listed
special_fewer r e past = past_fewer special_by_word special_role special_body_closes (λ tokens. refl) (kept_is_none special_words) r e past

pub said_fewer : (r e : Rest) (section : NetSection) → past_clause_in r section ≡ Some e → length e.words < length r.words
said_fewer r e sections.Nets past = net_fewer r e past
said_fewer r e sections.SpecialNets past = special_fewer r e past
