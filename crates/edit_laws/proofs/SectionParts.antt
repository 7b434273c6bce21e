-- A section of a text that reads, by its parts: its header, what stands in it, its END, and what stands around it.
use Rattle.std.proofs.Common.{◌≡◌, ◌⊎◌, inl, inr, ℕ, Bool, true, false, List, [], ◌∷◌, ◌++◌, Option, Some, None, Ok, refl, sym, ap, subst, ◌∙◌, ⊎_elim, append_assoc}
use Rattle.std.specs.List.{list_any}
use Rattle.std.specs.Str.{bytes_eq}
use Rattle.std.proofs.lemmas.Bool.{cases_Bool as cases}
use Rattle.std.proofs.lemmas.List.Elements.{All-head, All-tail}
use Rattle.std.proofs.lemmas.Slice.Eq.{bytes_eq-Decides}
use Rattle.design_model.specs.declared.mode.Mode.{Mode}
use Rattle.design_model.specs.declared.mode.Mode.TheVariants.{Top, In, Props, After}
use Rattle.design_model.specs.declared.mode.Section.{Section}
use Rattle.design_model.specs.EnumWords.{section_word}
use Rattle.statement_model.specs.Tokens.{Token, tokens}
use Rattle.statement_model.specs.Boundaries.{statements}
use Rattle.statement_model.specs.Grammar.{Key}
use Rattle.statement_model.specs.Reading.{same_words, read_form}
use Rattle.def_grammar.specs.Located.{located}
use Rattle.def_grammar.specs.Records.{Entry, section_of, Record, top, in_properties, end_section, entry, def_ending, key_of, is_after, def, read_def}
use Rattle.def_grammar.specs.Top.{header}
use Rattle.edit_rules.specs.SectionEdits.{is_section, is_header, is_end, lacks, tokens_where}
use Rattle.edit_laws.specs.StatementLaws.{records, StandsAmong}
use Rattle.edit_laws.proofs.FoundEntries.{same_section}
use Rattle.edit_laws.proofs.Keys.{Apart, stands_once}
use Rattle.edit_laws.proofs.PlanTexts.{tokens_read}
use Rattle.edit_laws.proofs.SaidStatements.{may_end}
use Rattle.edit_laws.proofs.SameWords.{form_reads, reads_one}
use Rattle.edit_laws.proofs.SectionModes.{Located, MayStand, Walk, walk_of, NoneOf, none_front, none_behind, is_in, section_itself, outside, closes, statement_is}
use Rattle.edit_laws.proofs.Stands.{seconds, split, whole_text}

-- a statement of a text that reads: its mode, those before and behind it, and that no other has its key
pub record Stood (text : List ℕ) (design : List Record) (ps : List Token) (rec : Record) (s : StandsAmong (located text design) ps rec) : Type 0 where
  pub at : Mode
  pub after : Mode
  pub last : Mode
  pub read : read_form def at ps ≡ Ok (rec, after)
  pub before : Walk Top s.first at
  pub behind : Walk after s.others last
  pub over : is_after last ≡ true
  pub apart : (w : List ℕ) (ws : Key) → key_of rec ≡ w ∷ ws → Apart def w ws (seconds s.first) × Apart def w ws (seconds s.others)

pub stood : (text : List ℕ) (design : List Record) → read_def text ≡ Ok design → (ps : List Token) (rec : Record) (s : StandsAmong (located text design) ps rec) → Stood text design ps rec s
stood text design reads ps rec s =
    let l = tokens text in
    let all = statements def_ending [] l.pieces in
    let state : Mode × List Key = (Top, []) in
    let whole = whole_text def def_ending (λ m. refl) state l design (tokens_read text design reads) in
    let x : List Record × (Mode × List Key) = (design, whole.end) in
    let p = split def state all.0 x s.first ps rec s.others whole.read s.all_are in
    let one = reads_one def p.at ps (rec, p.after) p.one_read in
    record {
      at = p.at.0;
      after = p.after.0;
      last = whole.end.0;
      read = form_reads def p.at.0 ps rec p.after.0 one.form;
      before = walk_of state s.first p.at p.first_read;
      behind = walk_of p.after s.others whole.end p.others_read;
      over = (may_end whole.end l.end whole.ended).may;
      apart = λ w ws key. stands_once def w ws state all.0 x s.first ps rec s.others p key;
    }

-- the mode in which an entry stands
entry_mode : (m : Mode) (e : Entry) → MayStand m (entry e) → m ≡ In (section_of e)
entry_mode Top e may = absurd may
entry_mode (In t) e may = ap (λ (u : Section). In u) (sym may)
entry_mode Props e may = absurd may
entry_mode After e may = absurd may

-- the first whose record passes a test
pub first_where : (test : Record → Bool) (first others : Located) (ps : List Token) (rec : Record) → NoneOf test first → test rec ≡ true → tokens_where test (first ++ (ps, rec) ∷ others) ≡ Some ps
first_where test [] others ps rec none is = rw is refl
first_where test (x ∷ first) others ps rec none is = rw none.0 (first_where test first others ps rec none.1 is)

module _ (s : Section) where
  -- a header of the section
  header_is : (r : Record) → is_header s r ≡ true → (n : List ℕ) × (r ≡ top (header s n))
  header_is (top (header t n)) is =
      let same = same_section s t ((bytes_eq-Decides (section_word s) (section_word t)).0 is) in
      (n, ap (λ (u : Section). top (header u n)) (sym same))
  header_is (inl (inr t)) is = absurd (cc)
  header_is (in_properties p) is = absurd (cc)
  header_is (end_section t) is = absurd (cc)
  header_is (entry e) is = absurd (cc)

  -- the first header of the section
  pub record Opened (xs : Located) : Type 0 where
    pub first : Located
    pub tokens : List Token
    pub number : List ℕ
    pub others : Located
    pub is : xs ≡ first ++ (tokens, top (header s number)) ∷ others
    pub none : NoneOf (is_header s) first

  opened_later : (x : List Token × Record) (xs : Located) → is_header s x.1 ≡ false → Opened xs → Opened (x ∷ xs)
  opened_later x xs other o = record { first = x ∷ o.first; tokens = o.tokens; number = o.number; others = o.others; is = ap (λ (ys : Located). x ∷ ys) o.is; none = (other, o.none) }

  pub opened : (xs : Located) → NoneOf (is_header s) xs ⊎ Opened xs
  opened [] = inl tt
  opened (x ∷ xs) = ⊎_elim
      (λ (is : is_header s x.1 ≡ true).
      let h = header_is x.1 is in
      inr (record { first = []; tokens = x.0; number = h.0; others = xs; is = ap (λ (r : Record). (x.0, r) ∷ xs) h.1; none = tt }))
      (λ (other : is_header s x.1 ≡ false). ⊎_elim (λ (none : NoneOf (is_header s) xs). inl (other, none)) (λ (o : Opened xs). inr (opened_later x xs other o)) (opened xs))
      (cases (is_header s x.1))

  -- where there is none, the section is lacking
  pub none_lacks : (xs : Located) → NoneOf (is_header s) xs → list_any (is_header s) (records xs) ≡ false
  none_lacks [] none = refl
  none_lacks (x ∷ xs) none = rw none.0 (none_lacks xs none.1)

  -- what has another key is none
  other_header : (r : Record) → same_words (section_word s ∷ []) (key_of r) ≡ false → is_header s r ≡ false
  other_header (top (header t n)) differs = ⊎_elim
      (λ (is : is_section s t ≡ true). let h = rw is at differs in absurd (cc))
      (λ (other : is_section s t ≡ false). other)
      (cases (is_section s t))
  other_header (inl (inr t)) differs = refl
  other_header (in_properties p) differs = refl
  other_header (end_section t) differs = refl
  other_header (entry e) differs = refl

  no_headers : (xs : Located) → Apart def (section_word s) [] (seconds xs) → NoneOf (is_header s) xs
  no_headers [] apart = tt
  no_headers (x ∷ xs) apart =
      let Differs = λ (r : Record). same_words (section_word s ∷ []) (key_of r) ≡ false in
      (other_header x.1 (All-head Differs x.1 (seconds xs) apart), no_headers xs (All-tail Differs x.1 (seconds xs) apart))

  -- the statements of a text that has the section
  pub record HasSection (all : Located) : Type 0 where
    pub before : Located
    pub head : List Token
    pub number : List ℕ
    pub inside : Located
    pub foot : List Token
    pub behind : Located
    pub is : all ≡ before ++ (head, top (header s number)) ∷ (inside ++ (foot, end_section s) ∷ behind)
    pub no_heads : NoneOf (is_header s) before × NoneOf (is_header s) inside × NoneOf (is_header s) behind
    pub no_ends : NoneOf (is_end s) before × NoneOf (is_end s) inside × NoneOf (is_end s) behind

  module _ (text : List ℕ) (design : List Record) (reads : read_def text ≡ Ok design) where
    -- its header stands outside of it, alone, and opens it
    pub record Headed (o : Opened (located text design)) : Type 0 where
      pub mode : Mode
      pub read : read_form def mode o.tokens ≡ Ok (top (header s o.number), In s)
      pub no_end : NoneOf (is_end s) o.first
      pub no_head : NoneOf (is_header s) o.others
      pub last : Mode
      pub over : is_after last ≡ true
      pub behind : Walk (In s) o.others last

    pub headed : (o : Opened (located text design)) → Headed o
    headed o =
        let rec = top (header s o.number) in
        let st = stood text design reads o.tokens rec (record { first = o.first; others = o.others; all_are = o.is }) in
        let is = statement_is st.at o.tokens rec st.after st.read in
        let next : In s ≡ st.after = is.next in
        let out = outside s Top st.at o.first refl st.before o.none in
        let alone = st.apart (section_word s) [] refl in
        record {
          mode = st.at;
          read = subst (λ (m : Mode). read_form def st.at o.tokens ≡ Ok (rec, m)) (sym next) st.read;
          no_end = out.0;
          no_head = no_headers o.others alone.1;
          last = st.last;
          over = st.over;
          behind = subst (λ (m : Mode). Walk m o.others st.last) (sym next) st.behind;
        }

    -- so the section has its parts
    pub has_section : Opened (located text design) → HasSection (located text design)
    has_section o =
        let h = headed o in
        let c = closes s o.others h.last h.over h.behind in
        let heads = none_behind (is_header s) c.inside ((c.tokens, end_section s) ∷ c.behind) (subst (λ (xs : Located). NoneOf (is_header s) xs) c.is h.no_head) in
        record {
          before = o.first;
          head = o.tokens;
          number = o.number;
          inside = c.inside;
          foot = c.tokens;
          behind = c.behind;
          is = o.is ∙ ap (λ (xs : Located). o.first ++ (o.tokens, top (header s o.number)) ∷ xs) c.is;
          no_heads = (o.none, c.heads, heads.1);
          no_ends = (h.no_end, c.ends, (outside s Top h.last c.behind refl c.later heads.1).0);
        }

    -- where it isn't lacking, it is opened
    pub opened_there : lacks s design ≡ false → records (located text design) ≡ design → Opened (located text design)
    opened_there there same = ⊎_elim
        (λ (none : NoneOf (is_header s) (located text design)).
        let lacking : list_any (is_header s) design ≡ false = ap (list_any (is_header s)) (sym same) ∙ none_lacks (located text design) none in
        let h = rw lacking at there in
        absurd (cc))
        (λ (o : Opened (located text design)). o)
        (opened (located text design))

    -- an entry of it stands behind its header, and no other header stands there
    pub record Entered (ps : List Token) (rec : Record) (others : Located) : Type 0 where
      pub before : Located
      pub head : List Token
      pub number : List ℕ
      pub inside : Located
      pub is : located text design ≡ before ++ (head, top (header s number)) ∷ (inside ++ (ps, rec) ∷ others)
      pub no_heads : NoneOf (is_header s) before × NoneOf (is_header s) inside × NoneOf (is_header s) others
      pub mode : Mode
      pub read : read_form def mode head ≡ Ok (top (header s number), In s)

    pub entered : (ps : List Token) (e : Entry) (st : StandsAmong (located text design) ps (entry e)) → section_of e ≡ s → Entered ps (entry e) st.others
    entered ps e st section =
        let there = stood text design reads ps (entry e) st in
        let is = statement_is there.at ps (entry e) there.after there.read in
        let mode : there.at ≡ In s = entry_mode there.at e is.may ∙ ap (λ (t : Section). In t) section in
        ⊎_elim
        (λ (none : NoneOf (is_header s) st.first).
        let out : is_in s there.at ≡ false = (outside s Top there.at st.first refl there.before none).1 in
        let inside : is_in s there.at ≡ true = ap (is_in s) mode ∙ section_itself s in
        absurd (cc))
        (λ (o : Opened st.first).
        let rec = top (header s o.number) in
        let rest = o.others ++ (ps, entry e) ∷ st.others in
        let all : located text design ≡ o.first ++ (o.tokens, rec) ∷ rest
        = st.all_are ∙ (ap (λ (xs : Located). xs ++ (ps, entry e) ∷ st.others) o.is ∙ append_assoc o.first ((o.tokens, rec) ∷ o.others) ((ps, entry e) ∷ st.others)) in
        let whole : Opened (located text design) = record { first = o.first; tokens = o.tokens; number = o.number; others = rest; is = all; none = o.none } in
        let h = headed whole in
        record {
          before = o.first;
          head = o.tokens;
          number = o.number;
          inside = o.others;
          is = all;
          no_heads = (o.none, none_front (is_header s) o.others ((ps, entry e) ∷ st.others) h.no_head, (none_behind (is_header s) o.others ((ps, entry e) ∷ st.others) h.no_head).1);
          mode = h.mode;
          read = h.read;
        })
        (opened st.first)
