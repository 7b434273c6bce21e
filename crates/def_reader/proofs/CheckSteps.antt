-- The fault of a text, as a loop over its statements finds it.
use Rattle.std.proofs.Common.{◌≡◌, ℕ, ◌≤◌, Bool, true, false, List, [], ◌∷◌, ◌++◌, length, map, refl, sym, ap, ◌∙◌, append_assoc, Bor, codes, Option, Some, None, Result, Ok, Err, if◌then◌else◌}
use Rattle.std.specs.Prelude.{IsOk}
use Rattle.design_model.specs.declared.TheConstants.{MAX_TEXT}
use Rattle.design_model.specs.declared.fault.Fault.{Fault}
use Rattle.design_model.specs.declared.fault.FaultCode.{FaultCode}
use Rattle.design_model.specs.declared.fault.FaultCode.TheVariants.{NoUnits}
use Rattle.design_model.specs.declared.mode.Mode.{Mode}
use Rattle.design_model.specs.declared.mode.Mode.TheVariants.{Top}
use Rattle.statement_model.specs.Tokens.{Token, Lexed, left_from}
use Rattle.statement_model.specs.Boundaries.{statement_at}
use Rattle.statement_model.specs.Grammar.{Key}
use Rattle.statement_model.specs.Reading.{read_at, repeats, with_key, fault_at, pos_of}
use Rattle.lefdef_tokens.specs.Views.{span_of}
use Rattle.lefdef_tokens.specs.declared.span.Span.{Span}
use Rattle.statement_reader.specs.Located.{located_at}
use Rattle.statement_reader.proofs.LocatedSteps.{located_first, located_ends}
use Rattle.statement_reader.specs.ReadingLaws.{RecordsAreLocated}
use Rattle.std.proofs.lemmas.List.{append-nil}
use Rattle.def_reader.specs.TextViews.{statement_spans}
use Rattle.def_reader.proofs.RecordSteps.{located_is}
use Rattle.statement_reader.proofs.SoFar.{SoFar, so_far_start, so_far_on, so_far_fault, so_far_repeats, so_far_ends, so_far_lacks}
use Rattle.statement_reader.proofs.Steps.{form_read}
use Rattle.def_grammar.specs.Records.{def, def_ending, Record, key_of, read_def, without_units}
use Rattle.def_reader.specs.SeenViews.{has_word, StandFor, Belongs, latest_with}
use Rattle.def_reader.proofs.SectionSteps.{Opens, opened}

-- where the statements stand that are left
abbrev pub spans_at : Mode → List ℕ → ℕ → List Span
spans_at m text pos = map (λ x. span_of x.0) (located_at def m text pos)

-- one more of them
pub one_more_span : (mode after : Mode) (text : List ℕ) (pos end : ℕ) (ps : List Token) (rec : Record) (all spans : List Span) (span : Span)
    → statement_at def_ending (left_from text pos) ≡ Ok (Some (ps, left_from text end))
    → read_at def mode (left_from text pos) ≡ Ok (Some (rec, after, left_from text end))
    → span_of ps ≡ span
    → all ≡ spans ++ spans_at mode text pos
    → all ≡ (spans ++ span ∷ []) ++ spans_at after text end
one_more_span mode after text pos end ps rec all spans span at read is so_far =
    so_far ∙ ap (λ (z : List (List Token × Record)). spans ++ map (λ x. span_of x.0) z) (located_first def mode after (left_from text pos) (left_from text end) ps rec at read)
    ∙ rw is (sym (append_assoc spans (span ∷ []) (spans_at after text end)))

pub starts : (ps : List Token) → (span_of ps).lo ≡ pos_of ps
starts [] = refl
starts (p ∷ ps) = refl

-- all of them, where none is left
pub all_spans : (law : RecordsAreLocated def) (text : List ℕ) (mode : Mode) (pos n : ℕ) (spans : List Span) (design : List Record)
    → read_def text ≡ Ok design
    → spans_at Top text 0 ≡ spans ++ spans_at mode text pos
    → left_from text pos ≡ record { pieces = []; end = Ok n }
    → spans ≡ statement_spans text design
all_spans law text mode pos n spans design reads so_far ended =
    let none : spans_at mode text pos ≡ [] = ap (map (λ (x : List Token × Record). span_of x.0)) (located_ends def mode (left_from text pos) n ended) in
    sym (ap (map (λ (x : List Token × Record). span_of x.0)) (located_is law text design reads) ∙ so_far ∙ ap (λ (z : List Span). spans ++ z) none ∙ append-nil spans)

-- the text reads so far, and sets of words stand for its keys
pub record Going (text : List ℕ) (words names : List (Bor (List ℕ))) (mode : Mode) (pos : ℕ) : Type 0 where
  pub front : List Record
  pub latest : Option (List ℕ)
  pub keys : List Key
  pub so_far : SoFar def Top text front mode keys pos
  pub same : StandFor words names latest keys
  pub opens : Opens mode latest

pub going_start : (text : List ℕ) (words names : List (Bor (List ℕ))) → length text ≤ MAX_TEXT → words ≡ [] → names ≡ [] → Going text words names Top 0
going_start text words names fits no_words no_names = record {
  front = [];
  latest = None;
  keys = [];
  so_far = so_far_start def Top text fits;
  same = record {
    of_words = λ w. rw no_words refl;
    of_names = λ w n is. absurd (cc);
    stands = λ w is. absurd (cc);
    begun = λ w n is. absurd (cc);
  };
  opens = λ s is. absurd (cc);
}

no_fault : (r : Result (List Record) Fault) (recs : List Record) → r ≡ Ok recs → IsOk r
no_fault r recs h = rw h refl

module _ (text : List ℕ) (words names : List (Bor (List ℕ))) (mode : Mode) (pos : ℕ) (g : Going text words names mode pos) where
  pub going_fault : (f : Fault) → read_at def mode (left_from text pos) ≡ Err f → read_def text ≡ Err f
  going_fault f read = so_far_fault def Top text g.front mode g.keys pos g.so_far f read

  module _ (after : Mode) (left : Lexed) (ps : List Token) (rec : Record) (at : statement_at def_ending (left_from text pos) ≡ Ok (Some (ps, left))) (read : read_at def mode (left_from text pos) ≡ Ok (Some (rec, after, left))) where
    form : Belongs g.latest (key_of rec) × Opens after (latest_with (key_of rec) g.latest)
    form = opened mode after ps rec g.latest (form_read def mode after (left_from text pos) left ps rec at read) g.opens

    pub belongs : Belongs g.latest (key_of rec)
    belongs = form.0

    pub going_repeats : (code : FaultCode) → repeats g.keys (key_of rec) ≡ Some code → read_def text ≡ Err (fault_at code (pos_of ps))
    going_repeats code again = so_far_repeats def Top text g.front mode g.keys pos g.so_far after left ps rec code at read again

    pub going_on : (end : ℕ) (new_words new_names : List (Bor (List ℕ))) → left ≡ left_from text end → repeats g.keys (key_of rec) ≡ None
        → StandFor new_words new_names (latest_with (key_of rec) g.latest) (with_key (key_of rec) g.keys) → Going text new_words new_names after end
    going_on end new_words new_names is fresh same = record {
      front = _;
      latest = latest_with (key_of rec) g.latest;
      keys = with_key (key_of rec) g.keys;
      so_far = so_far_on def Top text g.front mode g.keys pos g.so_far after end rec (read ∙ ap (λ (l : Lexed). let x : Record × Mode × Lexed = (rec, after, l) in Ok (Some x)) is) fresh;
      same = same;
      opens = form.1;
    }

  module _ (n : ℕ) (ended : left_from text pos ≡ record { pieces = []; end = Ok n }) (none : read_at def mode (left_from text pos) ≡ Ok None) where
    lack : (b : Bool) → has_word words (codes "UNITS") ≡ b → without_units g.keys ≡ (if b then None else Some NoUnits)
    lack b is = rw (g.same.of_words (codes "UNITS"), is) refl

    pub going_ends : has_word words (codes "UNITS") ≡ true → IsOk (read_def text)
    going_ends units = no_fault (read_def text) g.front (so_far_ends def Top text g.front mode g.keys pos g.so_far n (ap (λ (l : Lexed). l.end) ended) none (lack true units))

    pub going_lacks : has_word words (codes "UNITS") ≡ false → read_def text ≡ Err (fault_at NoUnits n)
    going_lacks units = so_far_lacks def Top text g.front mode g.keys pos g.so_far n (ap (λ (l : Lexed). l.end) ended) none NoUnits (lack false units)
