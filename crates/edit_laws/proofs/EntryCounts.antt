-- A text has no more entries than bytes, so their number is within the limits of one.
use Rattle.std.proofs.Common.{◌≡◌, ◌≤◌, ◌<◌, ℕ, zero, suc, ◌+◌, Bool, true, false, ◌==◌, List, [], ◌∷◌, ◌++◌, length, zip, Option, Some, None, Ok, arith, refl, sym, ap, ◌∙◌, ⊎_elim, length-append, if◌then◌else◌}
use Rattle.std.specs.Prelude.{filter}
use Rattle.std.specs.List.{filter_map}
use Rattle.std.proofs.lemmas.Bool.{cases_Bool as cases, ltb-false}
use Rattle.std.proofs.lemmas.List.{length-map}
use Rattle.design_model.specs.declared.TheConstants.{MAX_TEXT}
use Rattle.design_model.specs.declared.mode.Mode.{Mode}
use Rattle.design_model.specs.declared.mode.Mode.TheVariants.{Top}
use Rattle.design_model.specs.declared.mode.Section.{Section}
use Rattle.design_model.specs.declared.token_kind.TokenKind.TheVariants.{Word, Quoted}
use Rattle.statement_model.specs.Tokens.{Open, between, comment, word, string, Token, Lexed, is_white, is_refused, at_end, closes, ended_by, next_open, lex, tokens, before, only_fault}
use Rattle.statement_model.specs.Boundaries.{Ending, is_whole, statements}
use Rattle.statement_model.specs.Grammar.{Key}
use Rattle.statement_model.specs.Reading.{read_text}
use Rattle.def_grammar.specs.Located.{located}
use Rattle.def_grammar.specs.Records.{Entry, section_of, Record, top, in_properties, end_section, entry, entry_of, def_ending, def, read_def}
use Rattle.edit_rules.specs.Plans.{is_long}
use Rattle.edit_rules.specs.SectionEdits.{is_section, entries_in}
use Rattle.edit_laws.specs.StatementLaws.{records}
use Rattle.edit_laws.proofs.PlanTexts.{tokens_read}
use Rattle.edit_laws.proofs.Stands.{firsts, seconds, zipped, whole_text}

-- what an open word or string may still give
abbrev ahead : Open → ℕ
ahead between = 0
ahead comment = 0
ahead (word start bytes) = 1
ahead (string start bytes last) = 1

after_comment : (b : Bool) → ahead (if b then between else comment) ≤ 1
after_comment true = omega arith
after_comment false = omega arith

small : (s : Open) → ahead s ≤ 1
small between = omega arith
small comment = omega arith
small (word start bytes) = omega arith
small (string start bytes last) = omega arith

after_ended : (b : Bool) (p : Token) (s : Open) → length (if b then p ∷ [] else []) + ahead (if b then between else s) ≤ 1
after_ended true p s = omega arith
after_ended false p s = let k = small s in omega (arith, k)

one_byte : (pos : ℕ) (s : Open) (b : ℕ) → length (ended_by s b) + ahead (next_open pos s b) ≤ 1 + ahead s
one_byte pos between b = let k = small (next_open pos between b) in omega (arith, k)
one_byte pos comment b = let k = after_comment (b == 10) in omega (arith, k)
one_byte pos (word start bytes) b = let k = after_ended (is_white b) (record { kind = Word; bytes = bytes; pos = start }) (word start (bytes ++ b ∷ [])) in omega (arith, k)
one_byte pos (string start bytes last) b = let k = after_ended (closes last b) (record { kind = Quoted; bytes = bytes ++ b ∷ []; pos = start }) (string start (bytes ++ b ∷ []) b) in omega (arith, k)

at_end_of : (pos : ℕ) (s : Open) → length (at_end pos s).pieces ≤ ahead s
at_end_of pos between = omega arith
at_end_of pos comment = omega arith
at_end_of pos (word start bytes) = omega arith
at_end_of pos (string start bytes last) = omega arith

if_read : (refused : Bool) (l m : Lexed) (n : ℕ) → l.pieces ≡ [] → length m.pieces ≤ n → length (if refused then l else m).pieces ≤ n
if_read true l m n none few = rw none (omega arith)
if_read false l m n none few = few

few_tokens : (pos : ℕ) (s : Open) (bs : List ℕ) → length (lex pos s bs).pieces ≤ length bs + ahead s
unfolding lex
few_tokens pos s [] = let k = at_end_of pos s in omega (arith, k)
few_tokens pos s (b ∷ bs) =
    let ended = ended_by s b in
    let later = lex (pos + 1) (next_open pos s b) bs in
    let one = one_byte pos s b in
    let others = few_tokens (pos + 1) (next_open pos s b) bs in
    let all : length (ended ++ later.pieces) ≡ length ended + length later.pieces = length-append ended later.pieces in
    if_read (is_refused b) (only_fault _) (before ended later) (suc (length bs) + ahead s) refl (omega (arith, one, others, all))

-- no more statements than tokens
few_statements : (begun ps : List Token) → length (statements def_ending begun ps).0 ≤ length ps
unfolding statements
few_statements begun [] = omega arith
few_statements begun (p ∷ ps) = ⊎_elim
    (λ (whole : is_whole def_ending (begun ++ p ∷ []) ≡ true). let k = few_statements [] ps in rw whole (omega (arith, k)))
    (λ (more : is_whole def_ending (begun ++ p ∷ []) ≡ false). let k = few_statements (begun ++ p ∷ []) ps in rw more (omega (arith, k)))
    (cases (is_whole def_ending (begun ++ p ∷ [])))

-- and no more entries than records
few_kept : {A : Type 0} (test : A → Bool) (xs : List A) → length (filter test xs) ≤ length xs
few_kept test [] = omega arith
few_kept test (x ∷ xs) = ⊎_elim
    (λ (is : test x ≡ true). let k = few_kept test xs in rw is (omega (arith, k)))
    (λ (no : test x ≡ false). let k = few_kept test xs in rw no (omega (arith, k)))
    (cases (test x))

few_entries : (recs : List Record) → length (filter_map entry_of recs) ≤ length recs
few_entries [] = omega arith
few_entries (top t ∷ recs) = let k = few_entries recs in omega (arith, k)
few_entries (in_properties p ∷ recs) = let k = few_entries recs in omega (arith, k)
few_entries (end_section s ∷ recs) = let k = few_entries recs in omega (arith, k)
few_entries (entry e ∷ recs) = let k = few_entries recs in omega (arith, k)

-- a text that reads isn't long
short : (text : List ℕ) (design : List Record) → read_def text ≡ Ok design → length text ≤ MAX_TEXT
unfolding read_text
short text design reads = ⊎_elim
    (λ (long : is_long text ≡ true). let e = rw long at reads in absurd (cc))
    (λ (fits : is_long text ≡ false). ltb-false MAX_TEXT (length text) fits)
    (cases (is_long text))

module _ (text : List ℕ) (design : List Record) (reads : read_def text ≡ Ok design) where
  abbrev state : Mode × List Key
  state = (Top, [])

  -- its statements have its records
  pub records_are : (records (located text design) ≡ design) × (firsts (located text design) ≡ (statements def_ending [] (tokens text).pieces).0)
  records_are =
      let ss = (statements def_ending [] (tokens text).pieces).0 in
      let whole = whole_text def def_ending (λ m. refl) state (tokens text) design (tokens_read text design reads) in
      let x : List Record × (Mode × List Key) = (design, whole.end) in
      let z = zipped def state ss x whole.read in
      (z.1, z.0)

  pub few_in_section : (s : Section) → length (entries_in s design) ≤ 1073741824
  few_in_section s =
      let all = located text design in
      let is = records_are in
      let recs : length (records all) ≡ length design = ap length is.0 in
      let stated : length (firsts all) ≡ length (statements def_ending [] (tokens text).pieces).0 = ap length is.1 in
      let one : length (records all) ≡ length all = length-map all (λ (x : List Token × Record). x.1) in
      let also : length (firsts all) ≡ length all = length-map all (λ (x : List Token × Record). x.0) in
      let cut = few_statements [] (tokens text).pieces in
      let lexed = few_tokens 0 between text in
      let bytes = short text design reads in
      let kept = few_kept (λ (e : Entry). is_section s (section_of e)) (filter_map entry_of design) in
      let entries = few_entries design in
      omega (arith, recs, stated, one, also, cut, lexed, bytes, kept, entries)
