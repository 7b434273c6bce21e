-- Laws of changes of statements, whatever edit asks for them.
use Rattle.std.specs.Prelude.{◌≡◌, ◌≤◌, ◌<◌, ℕ, ◌+◌, true, List, [], ◌∷◌, ◌++◌, length, map, take, drop, zip, None, Ok}
use Rattle.design_model.specs.declared.mode.Mode.{Mode}
use Rattle.statement_model.specs.Tokens.{Token, lex, is_white, left_from}
use Rattle.statement_model.specs.Tokens.Open.{between}
use Rattle.statement_model.specs.Boundaries.{words, statements}
use Rattle.statement_model.specs.Cuts.{cut_from}
use Rattle.statement_model.specs.Grammar.{Key, Grammar}
use Rattle.statement_model.specs.Reading.{repeats, with_key, read_form, read_from}
use Rattle.def_grammar.specs.Records.{Record, def_ending, key_of, without_units, def}
use Rattle.edit_rules.specs.Plans.{StatementChange, cuts_for}
use Rattle.statement_laws.specs.ReadingLaws.{ReadsAs}
use Rattle.splicing_laws.specs.SplicingLaws.{AreTokens}
use Rattle.splicing_laws.specs.KeepingLaws.{AreInOrder}

-- the statements of a text from a place on, with their records
abbrev pub located_from : List ℕ → ℕ → List Record → List (List Token × Record)
located_from text from recs = zip (statements def_ending [] (left_from text from).pieces).0 recs

-- the records alone
abbrev pub records : List (List Token × Record) → List Record
records = map (λ s. s.1)

-- a statement with these tokens among others with their records
pub record StandsAmong (all : List (List Token × Record)) (ps : List Token) (rec : Record) : Type 0 where
  pub first : List (List Token × Record)
  pub others : List (List Token × Record)
  pub all_are : all ≡ first ++ (ps, rec) ∷ others

-- the words of a statement of which some are taken, and others put there
abbrev pub changed_words : StatementChange → List (List ℕ) → List (List ℕ) → List (List ℕ)
changed_words c put ws = take c.before ws ++ (put ++ drop (c.before + c.taken) ws)

-- the forms of DEF alone: nothing is said of what stands twice or is lacking
abbrev pub forms : Grammar Mode Record
forms = record def { key = λ rec. []; lacks = λ seen. None }

-- words that, wherever they stand, are statements of these records in their forms, from a mode to a mode
abbrev pub AreSaid : Mode → List (List ℕ) → List Record → Mode → Type 0
AreSaid m ws recs after = (qs : List Token) → words qs ≡ ws → ReadsAs forms (m, []) qs recs (after, [])

-- bytes that begin with white space
abbrev pub BeginsWhite : List ℕ → Type 0
BeginsWhite [] = ⊥
BeginsWhite (b ∷ bs) = is_white b ≡ true

-- A change of a statement with these tokens. Its bytes are whole tokens, and come after white space where they stand
-- right behind a token that stays; with their words the statement is those that the change says, in its mode and leaving
-- that which it leaves.
pub record IsChange (ps : List Token) (rec : Record) (c : StatementChange) : Type 0 where
  pub put : List Token
  pub tokens : AreTokens c.put put
  pub some : 0 < length ps
  pub within : c.before + c.taken ≤ length ps
  pub apart : c.taken ≡ 0 → 0 < c.before → BeginsWhite c.put
  pub says : (m after : Mode) → read_form def m ps ≡ Ok (rec, after) → AreSaid m (changed_words c (words put) (words ps)) c.said after

-- changes of some of a text's statements, in their order, make these records of all
abbrev pub Make : List (List Token × Record) → List (List Token × StatementChange) → List Record → Type 0
Make all [] new = new ≡ records all
Make all (x ∷ xs) new =
    (rec : Record)
    × (s : StandsAmong all x.0 rec)
    × IsChange x.0 rec x.1
    × (later : List Record)
    × Make s.others xs later
    × (new ≡ records s.first ++ (x.1.said ++ later))

-- after keys that were seen, no key of these records stands twice, and at their end none is lacking
abbrev pub AreOnce : List Key → List Record → Type 0
AreOnce seen [] = without_units seen ≡ None
AreOnce seen (r ∷ rs) = (repeats seen (key_of r) ≡ None) × AreOnce (with_key (key_of r) seen) rs

-- From any place of a text on, where any mode and any keys come before it: with the cuts of such changes made, the text
-- reads as the records that they make, where no key stands twice among these.
abbrev pub StatementsAreChanged : Type 0
StatementsAreChanged = (text : List ℕ) (from : ℕ) (m : Mode) (seen : List Key) (recs new : List Record) (changes : List (List Token × StatementChange))
    → from ≤ length text
    → read_from def (m, seen) (left_from text from) ≡ Ok recs
    → Make (located_from text from recs) changes new
    → AreOnce seen new
    → read_from def (m, seen) (lex from between (cut_from from (cuts_for text changes) text)) ≡ Ok new

-- The cuts stand in order after that place and within the text.
abbrev pub ChangesStandInOrder : Type 0
ChangesStandInOrder = (text : List ℕ) (from : ℕ) (m : Mode) (seen : List Key) (recs new : List Record) (changes : List (List Token × StatementChange))
    → from ≤ length text
    → read_from def (m, seen) (left_from text from) ≡ Ok recs
    → Make (located_from text from recs) changes new
    → AreInOrder from (cuts_for text changes) (length text)

-- Where the keys of what is read stay, in their order, none stands twice.
abbrev pub SameKeysAreOnce : Type 0
SameKeysAreOnce = (text : List ℕ) (from : ℕ) (m : Mode) (seen : List Key) (recs new : List Record)
    → read_from def (m, seen) (left_from text from) ≡ Ok recs
    → map key_of new ≡ map key_of recs
    → AreOnce seen new
