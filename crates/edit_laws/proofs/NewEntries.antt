-- Entries that edits put into a section: their bytes are their tokens, and they stand in their forms.
use Rattle.std.proofs.Common.{◌≡◌, inl, inr, ℕ, ◌+◌, Bool, true, false, ℤ, List, [], ◌∷◌, ◌++◌, length, Option, Some, None, Ok, arith, refl, sym, ap, subst, ◌∙◌, append_assoc, append-nil, codes}
use Rattle.std.specs.Fmt.{signed_decimal}
use Rattle.std.specs.List.{list_all}
use Rattle.std.proofs.lemmas.Bool.{or_right}
use Rattle.std.proofs.lemmas.List.Elements.{All-nil}
use Rattle.design_model.specs.declared.mode.Section.TheVariants.{Components, Blockages}
use Rattle.form_meanings.specs.Words.{is_name, is_stop}
use Rattle.statement_model.specs.Tokens.{Open, Token, next_open, lex, tokens}
use Rattle.statement_model.specs.Tokens.Open.{between, comment, word, string}
use Rattle.statement_model.specs.Boundaries.{words}
use Rattle.statement_model.specs.Form.{spell, Fits}
use Rattle.def_grammar.specs.Blockages.{blockage_kind, blockage_clause, blockage_shape, blockage as blockage_entry, blockage_form}
use Rattle.def_grammar.specs.Components.{component_form}
use Rattle.def_grammar.specs.Numbers.{is_int}
use Rattle.def_grammar.specs.Parts.{point}
use Rattle.def_grammar.specs.Points.{is_star, is_coordinate, later_point, corners}
use Rattle.def_grammar.specs.Records.{Entry, entries_form}
use Rattle.edit_rules.specs.ComponentEdits.{is_out}
use Rattle.edit_rules.specs.SectionEdits.{component_text, new_component, kind_text, blockage_text, new_blockage}
use Rattle.lefdef_tokens.specs.Laws.{state_after, IsClosed}
use Rattle.splicing_laws.specs.SplicingLaws.{AreTokens, HasWords, TokensArePut}
use Rattle.splicing_laws.specs.WordLaws.{is_one_word, spaced, SpacedAreTokens, PrintedNumbersAreWords, PrintedNumbersAreRead}
use Rattle.edit_laws.specs.EntryLaws.{IsWritten}
use Rattle.edit_laws.proofs.PlacedFits.{number_is_int}

-- a line feed leaves nothing open but a string
feed_closes : (state : Open) (pos : ℕ) → IsClosed state → IsClosed (next_open pos state 10)
feed_closes between pos closed = tt
feed_closes comment pos closed = absurd closed
feed_closes (word start bytes) pos closed = tt
feed_closes (string start bytes last) pos closed = absurd closed

line_closes : (put : List ℕ) (pos : ℕ) (state : Open) → IsClosed (state_after pos state put) → IsClosed (state_after pos state (put ++ 10 ∷ []))
unfolding state_after
line_closes [] pos state closed = feed_closes state pos closed
line_closes (b ∷ bs) pos state closed = line_closes bs (pos + 1) (next_open pos state b) closed

feed_has_none : HasWords (10 ∷ []) []
unfolding lex
feed_has_none = record { words = refl; end = refl }

-- an entry that is spelled with the words of its bytes
pub record IsPut (put : List ℕ) (e : Entry) : Type 0 where
  pub qs : List Token
  pub tokens : AreTokens put qs
  pub written : IsWritten (words qs) e

-- where a layer is named, it is a name
abbrev pub IsNamed : Option (List ℕ) → Type 0
IsNamed None = Unit {0}
IsNamed (Some l) = (is_one_word l ≡ true) × (is_name l ≡ true)

-- the words of a rectangle, and of an entry of BLOCKAGES with one
abbrev rectangle_words : List ℕ → List ℕ → List ℕ → List ℕ → List (List ℕ)
rectangle_words a b c d = codes "RECT" ∷ codes "(" ∷ a ∷ b ∷ codes ")" ∷ codes "(" ∷ c ∷ d ∷ codes ")" ∷ codes ";" ∷ []

abbrev blockage_words : Option (List ℕ) → List ℕ → List ℕ → List ℕ → List ℕ → List (List ℕ)
blockage_words None a b c d = codes "-" ∷ codes "PLACEMENT" ∷ rectangle_words a b c d
blockage_words (Some l) a b c d = codes "-" ∷ codes "LAYER" ∷ l ∷ rectangle_words a b c d

-- two points behind some bytes, grouped to the right
points_line : (front opening a blank b close c d end : List ℕ)
    → ((front ++ ((((opening ++ a) ++ blank) ++ b) ++ close)) ++ ((((opening ++ c) ++ blank) ++ d) ++ close)) ++ end ≡ front ++ (opening ++ (a ++ (blank ++ (b ++ (close ++ (opening ++ (c ++ (blank ++ (d ++ (close ++ end))))))))))
points_line front opening a blank b close c d end = simp append_assoc refl

-- and the bytes behind them among these
end_of_line : (a blank b middle c d close end : List ℕ) → (a ++ (blank ++ (b ++ (middle ++ (c ++ (blank ++ (d ++ close))))))) ++ end ≡ a ++ (blank ++ (b ++ (middle ++ (c ++ (blank ++ (d ++ (close ++ end)))))))
end_of_line a blank b middle c d close end = simp append_assoc refl

-- the bytes of an entry, where its numbers are written so
abbrev corner_bytes : List ℕ → List ℕ → List ℕ
corner_bytes x y = (((codes " ( " ++ x) ++ 32 ∷ []) ++ y) ++ codes " )"

abbrev blockage_bytes : Option (List ℕ) → List ℕ → List ℕ → List ℕ → List ℕ → List ℕ
blockage_bytes layer a b c d = ((((codes "- " ++ kind_text layer) ++ codes " RECT") ++ corner_bytes a b) ++ corner_bytes c d) ++ codes " ;\n"

blockage_line : (layer : Option (List ℕ)) (a b c d : List ℕ) → blockage_bytes layer a b c d ≡ spaced (blockage_words layer a b c d) ++ 10 ∷ []
blockage_line None a b c d =
    points_line (codes "- PLACEMENT RECT") (codes " ( ") a (32 ∷ []) b (codes " )") c d (codes " ;\n")
    ∙ ap (λ (bs : List ℕ). codes "- PLACEMENT RECT ( " ++ bs) (sym (end_of_line a (32 ∷ []) b (codes " ) ( ") c d (codes " ) ;") (10 ∷ [])))
blockage_line (Some l) a b c d =
    let all = a ++ 32 ∷ (b ++ (codes " ) ( " ++ (c ++ 32 ∷ (d ++ codes " ) ;")))) in
    let line = a ++ 32 ∷ (b ++ (codes " ) ( " ++ (c ++ 32 ∷ (d ++ codes " ) ;\n")))) in
    let rest : all ++ 10 ∷ [] ≡ line = end_of_line a (32 ∷ []) b (codes " ) ( ") c d (codes " ) ;") (10 ∷ []) in
    ap (λ (bs : List ℕ). codes "- LAYER " ++ bs) (
    points_line (l ++ codes " RECT") (codes " ( ") a (32 ∷ []) b (codes " )") c d (codes " ;\n")
    ∙ (append_assoc l (codes " RECT") (codes " ( " ++ line)
    ∙ (ap (λ (bs : List ℕ). l ++ (codes " RECT ( " ++ bs)) (sym rest) ∙ sym (append_assoc l (codes " RECT ( " ++ all) (10 ∷ []))))
    )

-- what the blockage of a layer or of placement is spelled with, and that it fits
module _ (words_so : PrintedNumbersAreWords) (read_so : PrintedNumbersAreRead) (x1 y1 x2 y2 : ℤ) where
  blockage_spelled : (layer : Option (List ℕ)) → spell (entries_form Blockages) (new_blockage layer x1 y1 x2 y2) ≡ blockage_words layer (signed_decimal x1) (signed_decimal y1) (signed_decimal x2) (signed_decimal y2)
  unfolding entries_form blockage_form blockage_entry blockage_kind blockage_shape corners point later_point
  blockage_spelled None = refl
  blockage_spelled (Some l) = refl

  blockage_fits : (layer : Option (List ℕ)) → IsNamed layer → Fits (entries_form Blockages) (new_blockage layer x1 y1 x2 y2) []
  unfolding entries_form blockage_form blockage_entry blockage_kind blockage_shape corners point later_point
  blockage_fits None named = (refl, ((refl, tt), ((omega arith, refl), ((refl, (((words_so x1).1, (words_so y1).1), ((words_so x2).1, (words_so y2).1))), (omega arith, refl)))))
  blockage_fits (Some l) named = (refl, ((refl, named.1), ((omega arith, refl), ((refl, (((words_so x1).1, (words_so y1).1), ((words_so x2).1, (words_so y2).1))), (omega arith, refl)))))

  coordinate_is : (z : ℤ) → is_out z ≡ false → is_coordinate (signed_decimal z) ≡ true
  unfolding is_coordinate
  coordinate_is z inside = or_right (is_star (signed_decimal z)) (is_int (signed_decimal z)) (number_is_int words_so read_so z inside)

  module _ (x1_in : is_out x1 ≡ false) (y1_in : is_out y1 ≡ false) (x2_in : is_out x2 ≡ false) (y2_in : is_out y2 ≡ false) where
    blockage_good : (layer : Option (List ℕ)) → (entries_form Blockages).of.bad (new_blockage layer x1 y1 x2 y2) [] ≡ None
    unfolding entries_form blockage_form blockage_entry blockage_kind blockage_shape corners point later_point
    blockage_good None = rw (number_is_int words_so read_so x1 x1_in, number_is_int words_so read_so y1 y1_in, coordinate_is x2 x2_in, coordinate_is y2 y2_in) refl
    blockage_good (Some l) = rw (number_is_int words_so read_so x1 x1_in, number_is_int words_so read_so y1 y1_in, coordinate_is x2 x2_in, coordinate_is y2 y2_in) refl

    blockage_written : (layer : Option (List ℕ)) → IsNamed layer → IsWritten (blockage_words layer (signed_decimal x1) (signed_decimal y1) (signed_decimal x2) (signed_decimal y2)) (new_blockage layer x1 y1 x2 y2)
    blockage_written layer named = record { spelled = sym (blockage_spelled layer); fits = blockage_fits layer named; good = blockage_good layer }

  each_is_one_word : (layer : Option (List ℕ)) → IsNamed layer → list_all is_one_word (blockage_words layer (signed_decimal x1) (signed_decimal y1) (signed_decimal x2) (signed_decimal y2)) ≡ true
  each_is_one_word None named = rw ((words_so x1).0, (words_so y1).0, (words_so x2).0, (words_so y2).0) refl
  each_is_one_word (Some l) named = let one = named.0 in rw (one, (words_so x1).0, (words_so y1).0, (words_so x2).0, (words_so y2).0) refl

module _ (spaced_so : SpacedAreTokens) (put_so : TokensArePut) where
  -- words on a line
  line_is_put : (ws : List (List ℕ)) (put : List ℕ) (e : Entry) → put ≡ spaced ws ++ 10 ∷ [] → list_all is_one_word ws ≡ true → IsWritten ws e → IsPut put e
  line_is_put ws put e same each written =
      let t = spaced_so [] ws refl each in
      let line = spaced ws ++ 10 ∷ [] in
      let has = put_so (spaced ws) (10 ∷ []) t.0 [] t.1 (inr refl) feed_has_none in
      let are : AreTokens line (tokens line).pieces = record { pieces = refl; end = has.end; closed = line_closes (spaced ws) 0 between t.1.closed } in
      let words_are : words (tokens line).pieces ≡ ws = has.words ∙ (append-nil (words t.0) ∙ t.2) in
      record {
        qs = (tokens line).pieces;
        tokens = subst (λ (bytes : List ℕ). AreTokens bytes (tokens line).pieces) (sym same) are;
        written = subst (λ (vs : List (List ℕ)). IsWritten vs e) (sym words_are) written;
      }

  -- - c m ;
  component_line : (c m : List ℕ) → component_text c m ≡ spaced (codes "-" ∷ c ∷ m ∷ codes ";" ∷ []) ++ 10 ∷ []
  component_line c m = simp append_assoc refl

  component_written : (c m : List ℕ) → is_name c ≡ true → is_name m ≡ true → IsWritten (codes "-" ∷ c ∷ m ∷ codes ";" ∷ []) (new_component c m)
  unfolding entries_form component_form
  component_written c m c_is m_is = record {
    spelled = refl;
    fits = (c_is, (m_is, ((All-nil (λ (v : List ℕ). is_stop v ≡ false), refl), (omega arith, refl))));
    good = refl;
  }

  pub component_is_put : (c m : List ℕ) → is_one_word c ≡ true → is_one_word m ≡ true → is_name c ≡ true → is_name m ≡ true → IsPut (component_text c m) (new_component c m)
  component_is_put c m c_one m_one c_is m_is = line_is_put (codes "-" ∷ c ∷ m ∷ codes ";" ∷ []) (component_text c m) (new_component c m) (component_line c m) (rw (c_one, m_one) refl) (component_written c m c_is m_is)

  pub blockage_is_put : PrintedNumbersAreWords → PrintedNumbersAreRead → (layer : Option (List ℕ)) (x1 y1 x2 y2 : ℤ) → IsNamed layer → is_out x1 ≡ false → is_out y1 ≡ false → is_out x2 ≡ false → is_out y2 ≡ false
      → IsPut (blockage_text layer x1 y1 x2 y2) (new_blockage layer x1 y1 x2 y2)
  blockage_is_put words_so read_so layer x1 y1 x2 y2 named x1_in y1_in x2_in y2_in =
      line_is_put (blockage_words layer (signed_decimal x1) (signed_decimal y1) (signed_decimal x2) (signed_decimal y2)) (blockage_text layer x1 y1 x2 y2) (new_blockage layer x1 y1 x2 y2)
      (blockage_line layer (signed_decimal x1) (signed_decimal y1) (signed_decimal x2) (signed_decimal y2)) (each_is_one_word words_so read_so x1 y1 x2 y2 layer named)
      (blockage_written words_so read_so x1 y1 x2 y2 x1_in y1_in x2_in y2_in layer named)
