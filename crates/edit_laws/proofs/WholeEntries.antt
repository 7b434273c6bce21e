-- What an entry is spelled with is one whole statement.
use Rattle.std.proofs.Common.{◌≡◌, ℕ, List, [], ◌∷◌, ◌++◌, refl, ap, ◌∙◌, append_assoc, codes}
use Rattle.std.specs.List.{All}
use Rattle.std.proofs.lemmas.List.Elements.{All-head, All-tail}
use Rattle.form_meanings.specs.Words.{is_semicolon}
use Rattle.statement_model.specs.Tokens.{Token}
use Rattle.statement_model.specs.Boundaries.{Ending, up_to, words, is_alone, is_last, last_of, is_whole, statements}
use Rattle.def_grammar.specs.Records.{def_ending}
use Rattle.edit_laws.proofs.Plain.{GoesOn}

last_is : (p q : Token) (ps : List Token) → last_of p (ps ++ q ∷ []) ≡ q
unfolding last_of
last_is p q [] = refl
last_is p q (r ∷ ps) = last_is r q ps

-- after a word that asks for it the first ; ends a statement
whole_at : (first q : Token) (ps : List Token) → def_ending first.bytes ≡ up_to (codes ";") → is_whole def_ending (first ∷ (ps ++ q ∷ [])) ≡ is_semicolon q.bytes
unfolding last_of
whole_at first q [] ends = ap (λ (e : Ending). is_last e q.bytes) ends
whole_at first q (p ∷ ps) ends = ap (λ (e : Ending). is_last e (last_of p (ps ++ q ∷ [])).bytes) ends ∙ ap (λ (r : Token). is_semicolon r.bytes) (last_is p q ps)

goes_to_end : (first : Token) (before ps : List Token) (ws : List (List ℕ)) → def_ending first.bytes ≡ up_to (codes ";") → words ps ≡ ws ++ codes ";" ∷ [] → All GoesOn ws
    → statements def_ending (first ∷ before) ps ≡ ((first ∷ (before ++ ps)) ∷ [], [])
unfolding statements
goes_to_end first before [] [] ends e none = absurd (cc)
goes_to_end first before (q ∷ []) [] ends e none =
    let same : q.bytes ≡ codes ";" = cc in
    rw (whole_at first q before ends ∙ ap is_semicolon same) refl
goes_to_end first before (q ∷ r ∷ ps) [] ends e none = absurd (cc)
goes_to_end first before [] (w ∷ ws) ends e none = absurd (cc)
goes_to_end first before (q ∷ ps) (w ∷ ws) ends e none =
    let same : q.bytes ≡ w = cc in
    let later : words ps ≡ ws ++ codes ";" ∷ [] = cc in
    rw (whole_at first q before ends ∙ ap is_semicolon same ∙ All-head GoesOn w ws none)
    (goes_to_end first (before ++ q ∷ []) ps ws ends later (All-tail GoesOn w ws none) ∙ ap (λ (qs : List Token). ((first ∷ qs) ∷ [], [])) (append_assoc before (q ∷ []) ps))

-- such a word, and words that are no ; before one are one statement
pub statement_to_end : (ps : List Token) (first : List ℕ) (ws : List (List ℕ)) → def_ending first ≡ up_to (codes ";") → words ps ≡ first ∷ (ws ++ codes ";" ∷ []) → All GoesOn ws → statements def_ending [] ps ≡ (ps ∷ [], [])
unfolding statements
statement_to_end [] first ws ends e none = absurd (cc)
statement_to_end (p ∷ ps) first ws ends e none =
    let same : p.bytes ≡ first = cc in
    let later : words ps ≡ ws ++ codes ";" ∷ [] = cc in
    let here = ap def_ending same ∙ ends in
    rw (ap is_alone here) (goes_to_end p [] ps ws here later none)

-- so a - and such words are
pub one_statement : (ps : List Token) (ws : List (List ℕ)) → words ps ≡ codes "-" ∷ (ws ++ codes ";" ∷ []) → All GoesOn ws → statements def_ending [] ps ≡ (ps ∷ [], [])
one_statement ps ws e none = statement_to_end ps (codes "-") ws refl e none
