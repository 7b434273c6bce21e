-- An edit of all entries of a design that reads is the change of one.
use Rattle.std.proofs.Common.{◌≡◌, ℕ, false, List, [], ◌∷◌, ◌++◌, map, refl, ap, ap₂, ◌∙◌}
use Rattle.std.proofs.lemmas.List.{map-append}
use Rattle.std.proofs.lemmas.List.Elements.{All-head, All-tail}
use Rattle.design_model.specs.declared.mode.Mode.{Mode}
use Rattle.design_model.specs.EnumWords.{section_word}
use Rattle.statement_model.specs.Tokens.{left_from}
use Rattle.statement_model.specs.Boundaries.{statements}
use Rattle.statement_model.specs.Grammar.{Key}
use Rattle.statement_model.specs.Reading.{same_words}
use Rattle.def_grammar.specs.Records.{Entry, section_of, Record, top, in_properties, end_section, entry, def_ending, entry_key, key_of, def}
use Rattle.edit_rules.specs.Edits.{on_entry}
use Rattle.edit_laws.specs.EntryLaws.{OneIsEdited}
use Rattle.edit_laws.proofs.Keys.{Apart, stands_once}
use Rattle.edit_laws.proofs.Stands.{seconds, split, whole_text}

module _ (f : Entry → Entry) (w : List ℕ) (ws : Key) (elsewhere : (other : Entry) → same_words (w ∷ ws) (key_of (entry other)) ≡ false → f other ≡ other) where
  one_stays : (rec : Record) → same_words (w ∷ ws) (key_of rec) ≡ false → on_entry f rec ≡ rec
  one_stays (top t) differs = refl
  one_stays (in_properties p) differs = refl
  one_stays (end_section s) differs = refl
  one_stays (entry e) differs = ap (λ (other : Entry). entry other) (elsewhere e differs)

  -- records without the key stay
  all_stay : (recs : List Record) → Apart def w ws recs → map (on_entry f) recs ≡ recs
  all_stay [] apart = refl
  all_stay (r ∷ recs) apart =
      let Differs = λ (rec : Record). same_words (w ∷ ws) (key_of rec) ≡ false in
      ap₂ (λ (rec : Record) (others : List Record). rec ∷ others) (one_stays r (All-head Differs r recs apart)) (all_stay recs (All-tail Differs r recs apart))

pub one_is_edited : OneIsEdited
one_is_edited text from state recs ps e said f reads s edit =
    let l = left_from text from in
    let all = statements def_ending [] l.pieces in
    let whole = whole_text def def_ending (λ m. refl) state l recs reads in
    let x : List Record × (Mode × List Key) = (recs, whole.end) in
    let p = split def state all.0 x s.first ps (entry e) s.others whole.read s.all_are in
    let key : key_of (entry e) ≡ section_word (section_of e) ∷ edit.name ∷ [] = ap (entry_key (section_of e)) edit.named in
    let once = stands_once def (section_word (section_of e)) (edit.name ∷ []) state all.0 x s.first ps (entry e) s.others p key in
    let elsewhere = λ (other : Entry) (differs : same_words (section_word (section_of e) ∷ edit.name ∷ []) (key_of (entry other)) ≡ false). edit.elsewhere other (ap (λ (k : Key). same_words k (key_of (entry other))) key ∙ differs) in
    let stay = all_stay f (section_word (section_of e)) (edit.name ∷ []) elsewhere in
    ap (map (on_entry f)) p.records
    ∙ (map-append (on_entry f) (seconds s.first) (entry e ∷ seconds s.others)
    ∙ (ap (λ (recs : List Record). recs ++ entry (f e) ∷ map (on_entry f) (seconds s.others)) (stay (seconds s.first) once.0)
    ∙ ap₂ (λ (here : Entry) (recs : List Record). seconds s.first ++ entry here ∷ recs) edit.here (stay (seconds s.others) once.1)))
