-- In a text that reads a section's header has the entries behind it that the section has.
use Rattle.std.proofs.Common.{◌≡◌, ℕ, true, false, List, [], ◌∷◌, ◌++◌, length, arith, Option, Some, None, Ok, refl, sym, ap, ap₂, subst, ◌∙◌, ⊎_elim, append-nil}
use Rattle.design_model.specs.declared.mode.Mode.{Mode}
use Rattle.design_model.specs.declared.mode.Mode.TheVariants.{Top, In, Props, After}
use Rattle.design_model.specs.declared.mode.Section.{Section}
use Rattle.statement_model.specs.Tokens.{Token}
use Rattle.def_grammar.specs.Located.{located}
use Rattle.def_grammar.specs.Numbers.{int_of}
use Rattle.def_grammar.specs.Records.{section_of, Record, top, in_properties, end_section, entry, mode_after, is_after, read_def}
use Rattle.def_grammar.specs.Top.{header, plain}
use Rattle.design_rules.specs.CountLines.{count_of, entries}
use Rattle.edit_rules.specs.SectionEdits.{entries_in, is_section, is_header}
use Rattle.edit_laws.specs.StatementLaws.{records}
use Rattle.edit_laws.proofs.EntryCounts.{records_are}
use Rattle.edit_laws.proofs.SectionModes.{Located, MayStand, Walk, NoneOf, is_in, section_itself, outside}
use Rattle.edit_laws.proofs.SectionParts.{stood, Opened, opened, headed}
use Rattle.count_laws.specs.Counts.{CountsAreBySection, header_number, header_lines, section_lines}
use Rattle.count_laws.proofs.HeaderLines.{own_lines, lines_are_parted}

module _ (s : Section) where
  -- what is no header of the section is passed by
  line_passed : (r : Record) (rs : List Record) → is_header s r ≡ false → own_lines (r ∷ rs) s ≡ own_lines rs s
  line_passed (top (header t n)) rs other = rw other refl
  line_passed (top (plain p)) rs other = refl
  line_passed (in_properties p) rs other = refl
  line_passed (end_section t) rs other = refl
  line_passed (entry e) rs other = refl

  lines_passed : (xs ys : Located) → NoneOf (is_header s) xs → own_lines (records (xs ++ ys)) s ≡ own_lines (records ys) s
  lines_passed [] ys none = refl
  lines_passed (x ∷ xs) ys none = line_passed x.1 (records (xs ++ ys)) none.0 ∙ lines_passed xs ys none.1

  no_lines : (xs : Located) → NoneOf (is_header s) xs → own_lines (records xs) s ≡ []
  no_lines xs none = ap (λ (ys : Located). own_lines (records ys) s) (sym (append-nil xs)) ∙ lines_passed xs [] none

  -- the only header of the section
  header_line : (first others : Located) (ps : List Token) (n : List ℕ) → NoneOf (is_header s) first → NoneOf (is_header s) others
      → own_lines (records (first ++ (ps, top (header s n)) ∷ others)) s ≡ count_of s (int_of n) (entries (records others))
  header_line first others ps n none none_later =
      let later = no_lines others none_later in
      lines_passed first ((ps, top (header s n)) ∷ others) none ∙ rw (section_itself s) (rw later (append-nil (count_of s (int_of n) (entries (records others)))))

  number_passed : (r : Record) (rs : List Record) → is_header s r ≡ false → header_number s (r ∷ rs) ≡ header_number s rs
  number_passed (top (header t n)) rs other = rw other refl
  number_passed (top (plain p)) rs other = refl
  number_passed (in_properties p) rs other = refl
  number_passed (end_section t) rs other = refl
  number_passed (entry e) rs other = refl

  numbers_passed : (xs ys : Located) → NoneOf (is_header s) xs → header_number s (records (xs ++ ys)) ≡ header_number s (records ys)
  numbers_passed [] ys none = refl
  numbers_passed (x ∷ xs) ys none = number_passed x.1 (records (xs ++ ys)) none.0 ∙ numbers_passed xs ys none.1

  no_number : (xs : Located) → NoneOf (is_header s) xs → header_number s (records xs) ≡ None
  no_number xs none = ap (λ (ys : Located). header_number s (records ys)) (sym (append-nil xs)) ∙ numbers_passed xs [] none

  number_said : (first others : Located) (ps : List Token) (n : List ℕ) → NoneOf (is_header s) first → header_number s (records (first ++ (ps, top (header s n)) ∷ others)) ≡ Some n
  number_said first others ps n none = numbers_passed first ((ps, top (header s n)) ∷ others) none ∙ rw (section_itself s) refl

  -- outside of the section no entry is one of it
  entry_passed : (m : Mode) (r : Record) (rs : List Record) → is_in s m ≡ false → MayStand m r → entries_in s (r ∷ rs) ≡ entries_in s rs
  entry_passed m (top t) rs out may = refl
  entry_passed m (in_properties p) rs out may = refl
  entry_passed m (end_section t) rs out may = refl
  entry_passed Top (entry e) rs out may = absurd may
  entry_passed (In t) (entry e) rs out may = let other : is_section s (section_of e) ≡ false = ap (is_section s) may ∙ out in rw other refl
  entry_passed Props (entry e) rs out may = absurd may
  entry_passed After (entry e) rs out may = absurd may

  entries_passed : (m last : Mode) (xs ys : Located) → is_in s m ≡ false → Walk m xs last → NoneOf (is_header s) xs → entries_in s (records (xs ++ ys)) ≡ entries_in s (records ys)
  entries_passed m last [] ys out walk none = refl
  entries_passed m last (x ∷ xs) ys out walk none =
      let next = mode_after m x.1 in
      let still = outside s m next (x ∷ []) out (walk.0, refl) (none.0, tt) in
      entry_passed m x.1 (records (xs ++ ys)) out walk.0 ∙ entries_passed next last xs ys still.1 walk.1 none.1

  none_outside : (m last : Mode) (xs : Located) → is_in s m ≡ false → Walk m xs last → NoneOf (is_header s) xs → entries_in s (records xs) ≡ []
  none_outside m last xs out walk none = ap (λ (ys : Located). entries_in s (records ys)) (sym (append-nil xs)) ∙ entries_passed m last xs [] out walk none

  -- from the section's header on, those up to the next END are all that it has
  entries_inside : (last : Mode) (xs : Located) → is_after last ≡ true → Walk (In s) xs last → NoneOf (is_header s) xs → entries (records xs) ≡ length (entries_in s (records xs))
  entries_inside last [] over walk none = let still : is_after (In s) ≡ true = ap is_after walk ∙ over in absurd (cc)
  entries_inside last ((ps, top t) ∷ xs) over walk none = absurd walk.0
  entries_inside last ((ps, in_properties p) ∷ xs) over walk none = absurd walk.0
  entries_inside last ((ps, end_section t) ∷ xs) over walk none = sym (ap length (none_outside Top last xs refl walk.1 none.1))
  entries_inside last ((ps, entry e) ∷ xs) over walk none =
      let own : is_section s (section_of e) ≡ true = ap (is_section s) walk.0 ∙ section_itself s in
      let later = entries_inside last xs over walk.1 none.1 in
      rw own (omega (arith, later))

  module _ (text : List ℕ) (design : List Record) (reads : read_def text ≡ Ok design) where
    abbrev all : Located
    all = located text design

    -- a text without the section's header
    without_header : NoneOf (is_header s) all → own_lines (records all) s ≡ section_lines (records all) s
    without_header none = no_lines all none ∙ sym (ap (header_lines s (length (entries_in s (records all)))) (no_number all none))

    -- and one with it
    with_header : Opened s all → own_lines (records all) s ≡ section_lines (records all) s
    with_header o =
        let h = headed s text design reads o in
        let rec = top (header s o.number) in
        let st = stood text design reads o.tokens rec (record { first = o.first; others = o.others; all_are = o.is }) in
        let behind : Located = (o.tokens, rec) ∷ o.others in
        let before = entries_passed Top st.at o.first behind refl st.before o.none in
        let found = ap length before ∙ sym (entries_inside h.last o.others h.over h.behind h.no_head) in
        let line = header_line o.first o.others o.tokens o.number o.none h.no_head in
        let number = number_said o.first o.others o.tokens o.number o.none in
        subst (λ (xs : Located). own_lines (records xs) s ≡ section_lines (records xs) s) (sym o.is)
        (line ∙ sym (ap₂ (λ (k : ℕ) (n : Option (List ℕ)). header_lines s k n) found number))

    lines_are_own : own_lines design s ≡ section_lines design s
    lines_are_own = subst (λ (rs : List Record). own_lines rs s ≡ section_lines rs s) (records_are text design reads).0 (⊎_elim without_header with_header (opened s all))

pub counts_are_by_section : CountsAreBySection
counts_are_by_section text design reads = lines_are_parted design (section_lines design) (λ s. lines_are_own s text design reads)
