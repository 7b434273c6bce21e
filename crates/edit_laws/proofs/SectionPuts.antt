-- An entry that is put last in a section, and the section's number, are two changes, which make the edited design.
use Rattle.std.proofs.Common.{◌≡◌, ℕ, suc, ◌-◌, false, List, [], ◌∷◌, ◌++◌, length, decimal, Option, Some, Ok, arith, refl, sym, ap, ap₂, subst, ◌∙◌, append_assoc}
use Rattle.design_model.specs.declared.mode.Section.{Section}
use Rattle.statement_model.specs.Tokens.{Token}
use Rattle.def_grammar.specs.Located.{located}
use Rattle.def_grammar.specs.Records.{Entry, section_of, Record, top, end_section, entry, read_def}
use Rattle.def_grammar.specs.Top.{header}
use Rattle.edit_rules.specs.Plans.{StatementChange}
use Rattle.edit_rules.specs.SectionEdits.{is_header, is_end, tokens_where, entries_in, recounted, with_last, count_change, put_change, two_changes, putting, lacks}
use Rattle.splicing_laws.specs.WordLaws.{SpacedAreTokens, PrintedNumbersAreWords, PrintedNumbersAreRead}
use Rattle.edit_laws.specs.StatementLaws.{records, Make, AreOnce}
use Rattle.edit_laws.proofs.EditedSections.{recounted_keys, recounted_stays, recounted_parts, last_parts}
use Rattle.edit_laws.proofs.EntryCounts.{few_in_section}
use Rattle.edit_laws.proofs.NewEntries.{IsPut}
use Rattle.edit_laws.proofs.SaidStatements.{same_keys_once}
use Rattle.edit_laws.proofs.SectionChanges.{counts_are_changes, puts_are_changes}
use Rattle.edit_laws.proofs.SectionModes.{Located, none_append, section_itself}
use Rattle.edit_laws.proofs.SectionParts.{HasSection, has_section, opened_there, first_where, stood, entered}
use Rattle.edit_laws.proofs.TwoChanges.{records_append, design_is, fronted, stands_first, stands_second, design_parts, two_make}

module _ (spaced_so : SpacedAreTokens) (words_so : PrintedNumbersAreWords) (read_so : PrintedNumbersAreRead) (text : List ℕ) (design : List Record) (reads : read_def text ≡ Ok design) where
  -- an entry put last in a section that isn't lacking
  module _ (s : Section) (put : List ℕ) (e : Entry) (is_put : IsPut put e) (section : section_of e ≡ s) (there : lacks s design ≡ false) where
    abbrev number : ℕ
    number = suc (length (entries_in s design))

    abbrev new : List Record
    new = recounted s number (with_last s e design)

    parts : HasSection s (located text design)
    parts = has_section s text design reads (opened_there s text design reads there (design_is text design reads))

    put_changes : putting s put e (located text design) design ≡ (parts.head, count_change s number) ∷ (parts.foot, put_change s put e) ∷ []
    put_changes =
        let p = parts in
        let head : tokens_where (is_header s) (located text design) ≡ Some p.head
        = ap (tokens_where (is_header s)) p.is ∙ first_where (is_header s) p.before (p.inside ++ (p.foot, end_section s) ∷ p.behind) p.head (top (header s p.number)) p.no_heads.0 (section_itself s) in
        let before : Located = p.before ++ (p.head, top (header s p.number)) ∷ p.inside in
        let none = none_append (is_end s) p.before ((p.head, top (header s p.number)) ∷ p.inside) p.no_ends.0 (refl, p.no_ends.1) in
        let foot : tokens_where (is_end s) (located text design) ≡ Some p.foot
        = ap (tokens_where (is_end s)) (fronted text design reads p.before p.head (top (header s p.number)) p.inside p.foot (end_section s) p.behind p.is)
        ∙ first_where (is_end s) before p.behind p.foot (end_section s) none (section_itself s) in
        ap₂ (λ (x y : Option (List Token)). two_changes x (count_change s number) y (put_change s put e)) head foot

    -- the design with it, by its parts
    with_it : new ≡ records parts.before ++ (top (header s (decimal number)) ∷ (records parts.inside ++ entry e ∷ end_section s ∷ records parts.behind))
    with_it =
        let p = parts in
        let h = top (header s p.number) in
        let before : Located = p.before ++ (p.head, h) ∷ p.inside in
        let none = none_append (is_end s) p.before ((p.head, h) ∷ p.inside) p.no_ends.0 (refl, p.no_ends.1) in
        let more = entry e ∷ end_section s ∷ records p.behind in
        let last : with_last s e design ≡ records before ++ more
        = ap (with_last s e) (sym (design_parts text design reads p.before p.head h p.inside p.foot (end_section s) p.behind p.is)) ∙ last_parts s e before p.behind none p.no_ends.2 in
        let grouped : records before ++ more ≡ records p.before ++ h ∷ (records p.inside ++ more)
        = ap (λ (rs : List Record). rs ++ more) (records_append p.before ((p.head, h) ∷ p.inside)) ∙ append_assoc (records p.before) (h ∷ records p.inside) more in
        let behind : Located = p.inside ++ (p.foot, entry e) ∷ (p.foot, end_section s) ∷ p.behind in
        let same : records behind ≡ records p.inside ++ more = records_append p.inside ((p.foot, entry e) ∷ (p.foot, end_section s) ∷ p.behind) in
        let none_there = none_append (is_header s) p.inside ((p.foot, entry e) ∷ (p.foot, end_section s) ∷ p.behind) p.no_heads.1 (refl, (refl, p.no_heads.2)) in
        let stays = subst (λ (rs : List Record). recounted s number rs ≡ rs) same (recounted_stays s number behind none_there) in
        ap (recounted s number) (last ∙ grouped) ∙ recounted_parts s number p.number p.before (records p.inside ++ more) p.no_heads.0 stays

    pub put_makes : Make (located text design) (putting s put e (located text design) design) new
    put_makes =
        let p = parts in
        let h = top (header s p.number) in
        let few = few_in_section text design reads s in
        let first = stood text design reads p.head h (stands_first text design reads p.before p.head h p.inside p.foot (end_section s) p.behind p.is) in
        let second = stood text design reads p.foot (end_section s) (stands_second text design reads p.before p.head h p.inside p.foot (end_section s) p.behind p.is) in
        let count = counts_are_changes words_so read_so number (omega (arith, few)) spaced_so p.head s p.number first.at first.after first.read in
        let entered = puts_are_changes p.foot s put is_put.qs e second.at second.after second.read is_put.tokens is_put.written section in
        let made = two_make text design reads p.before p.head h p.inside p.foot (end_section s) p.behind p.is (count_change s number) (put_change s put e) count entered in
        subst (λ (xs : List (List Token × StatementChange)). Make (located text design) xs new) (sym put_changes)
        (subst (λ (rs : List Record). Make (located text design) ((p.head, count_change s number) ∷ (p.foot, put_change s put e) ∷ []) rs) (sym with_it) made)

    -- where it may stand among the keys, none stands twice
    pub put_once : ((xs ys : List Record) → xs ++ ys ≡ design → AreOnce [] (xs ++ entry e ∷ ys)) → AreOnce [] new
    put_once once_so =
        let p = parts in
        let h = top (header s p.number) in
        let before : Located = p.before ++ (p.head, h) ∷ p.inside in
        let none = none_append (is_end s) p.before ((p.head, h) ∷ p.inside) p.no_ends.0 (refl, p.no_ends.1) in
        let whole = design_parts text design reads p.before p.head h p.inside p.foot (end_section s) p.behind p.is in
        let last : with_last s e design ≡ records before ++ entry e ∷ end_section s ∷ records p.behind = ap (with_last s e) (sym whole) ∙ last_parts s e before p.behind none p.no_ends.2 in
        let are = subst (λ (rs : List Record). AreOnce [] rs) (sym last) (once_so (records before) (end_section s ∷ records p.behind) whole) in
        same_keys_once [] (with_last s e design) new (recounted_keys s number (with_last s e design)) are
