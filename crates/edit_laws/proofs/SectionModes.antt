-- What stands where in a DEF text: a section's entries between its header and its END.
use Rattle.std.proofs.Common.{◌≡◌, inl, inr, ℕ, Bool, true, false, List, [], ◌∷◌, ◌++◌, Option, Some, None, Ok, refl, sym, ap, subst, ◌∙◌, ⊎_elim}
use Rattle.std.specs.Str.{bytes_eq}
use Rattle.std.proofs.lemmas.Bool.{cases_Bool as cases}
use Rattle.std.proofs.lemmas.Slice.Eq.{bytes_eq-Decides}
use Rattle.design_model.specs.declared.mode.Mode.{Mode}
use Rattle.design_model.specs.declared.mode.Mode.TheVariants.{Top, In, Props, After}
use Rattle.design_model.specs.declared.mode.Section.{Section}
use Rattle.design_model.specs.EnumWords.{section_word}
use Rattle.form_meanings.specs.Meaning.{find}
use Rattle.statement_model.specs.Tokens.{Token}
use Rattle.statement_model.specs.Boundaries.{words}
use Rattle.statement_model.specs.Folds.{all_from}
use Rattle.statement_model.specs.Form.{spell, Fits, whole}
use Rattle.statement_model.specs.Grammar.{Key}
use Rattle.statement_model.specs.Reading.{read_form, read_one}
use Rattle.def_grammar.specs.Properties.{end_properties}
use Rattle.def_grammar.specs.Records.{section_of, Record, top, in_properties, end_section, entry, statement, mode_after, is_after, def}
use Rattle.def_grammar.specs.Top.{header, units, end_design, properties}
use Rattle.def_grammar.proofs.EntrySections.{section_is}
use Rattle.statement_laws.proofs.Whole.{whole_shows}
use Rattle.edit_rules.specs.SectionEdits.{is_section, is_header, is_end}
use Rattle.edit_laws.proofs.SaidStatements.{pair_of}
use Rattle.edit_laws.proofs.SameWords.{has_form, form_reads, reads_one}
use Rattle.edit_laws.proofs.Stands.{firsts, seconds, first_read, none_read}

-- statements with their records
abbrev pub Located : Type 0
Located = List (List Token × Record)

-- a record may stand in a mode
abbrev pub MayStand : Mode → Record → Type 0
MayStand Top (top t) = Unit {0}
MayStand (In s) (end_section t) = t ≡ s
MayStand (In s) (entry e) = section_of e ≡ s
MayStand Props (in_properties p) = Unit {0}
MayStand _ _ = ⊥

only_one : (s t : Section) → find section_word (s ∷ []) (section_word t) ≡ Some t → t ≡ s
only_one s t found = ⊎_elim
    (λ (is : bytes_eq (section_word t) (section_word s) ≡ true). let h = rw is at found in cc)
    (λ (other : bytes_eq (section_word t) (section_word s) ≡ false). let h = rw other at found in absurd (cc))
    (cases (bytes_eq (section_word t) (section_word s)))

may_stand : (m : Mode) (rec : Record) → Fits (statement m) rec [] → MayStand m rec
unfolding statement
may_stand Top (top t) fits = tt
may_stand Top (in_properties p) fits = absurd fits
may_stand Top (end_section s) fits = absurd fits
may_stand Top (entry e) fits = absurd fits
may_stand (In s) (top t) fits = absurd fits
may_stand (In s) (in_properties p) fits = absurd fits
may_stand (In s) (end_section t) fits = only_one s t fits.1
may_stand (In s) (entry e) fits = section_is s e [] fits.1
may_stand Props (top t) fits = absurd fits
may_stand Props (in_properties p) fits = tt
may_stand Props (end_section s) fits = absurd fits
may_stand Props (entry e) fits = absurd fits
may_stand After rec fits = absurd fits

-- what is known of a statement that reads
pub record IsStatement (m : Mode) (ps : List Token) (rec : Record) (after : Mode) : Type 0 where
  pub may : MayStand m rec
  pub spelled : words ps ≡ spell (statement m) rec
  pub form : whole (statement m) (words ps) ≡ Some (rec, None)
  pub next : mode_after m rec ≡ after

pub statement_is : (m : Mode) (ps : List Token) (rec : Record) (after : Mode) → read_form def m ps ≡ Ok (rec, after) → IsStatement m ps rec after
statement_is m ps rec after reads =
    let x : Record × Mode = (rec, after) in
    let h = has_form def m ps x reads in
    let p : Record × Option ℕ = (rec, None) in
    let shown = whole_shows (statement m) (words ps) p h.form in
    record { may = may_stand m rec shown.1; spelled = shown.0; form = h.form; next = h.next }

-- statements may stand one after the other, from a mode to a mode
abbrev pub Walk : Mode → Located → Mode → Type 0
Walk m [] last = m ≡ last
Walk m (x ∷ xs) last = MayStand m x.1 × Walk (mode_after m x.1) xs last

-- those that read do
pub walk_of : (state : Mode × List Key) (xs : Located) (end : Mode × List Key) → all_from (read_one def) state (firsts xs) ≡ Ok (seconds xs, end) → Walk state.0 xs end.0
walk_of state [] end e =
    let y : List Record × (Mode × List Key) = ([], end) in
    let same = none_read def state y e in
    ap (λ (z : List Record × (Mode × List Key)). z.1.0) (sym same)
walk_of state (x ∷ xs) end e =
    let y : List Record × (Mode × List Key) = (seconds (x ∷ xs), end) in
    let f = first_read def state x.0 (firsts xs) y e in
    let all : x.1 ∷ seconds xs ≡ f.one.0 ∷ f.others.0 = ap (λ (z : List Record × (Mode × List Key)). z.0) f.is in
    let here : x.1 ≡ f.one.0 = cc in
    let rest : seconds xs ≡ f.others.0 = cc in
    let last : end ≡ f.others.1 = ap (λ (z : List Record × (Mode × List Key)). z.1) f.is in
    let others = f.others_read ∙ ap (λ (z : List Record × (Mode × List Key)). Ok z) (pair_of f.others (seconds xs) end (sym rest) (sym last)) in
    let later = walk_of f.one.1 xs end others in
    let one = reads_one def state x.0 f.one f.one_read in
    let st = statement_is state.0 x.0 f.one.0 f.one.1.0 (form_reads def state.0 x.0 f.one.0 f.one.1.0 one.form) in
    (subst (λ (r : Record). MayStand state.0 r) (sym here) st.may, subst (λ (k : Mode). Walk k xs end.0) (sym st.next ∙ ap (mode_after state.0) (sym here)) later)

-- no record of them passes a test
abbrev pub NoneOf : (Record → Bool) → Located → Type 0
NoneOf test [] = Unit {0}
NoneOf test (x ∷ xs) = (test x.1 ≡ false) × NoneOf test xs

module _ (test : Record → Bool) where
  pub none_append : (xs ys : Located) → NoneOf test xs → NoneOf test ys → NoneOf test (xs ++ ys)
  none_append [] ys first others = others
  none_append (x ∷ xs) ys first others = (first.0, none_append xs ys first.1 others)

  pub none_front : (xs ys : Located) → NoneOf test (xs ++ ys) → NoneOf test xs
  none_front [] ys all = tt
  none_front (x ∷ xs) ys all = (all.0, none_front xs ys all.1)

  pub none_behind : (xs ys : Located) → NoneOf test (xs ++ ys) → NoneOf test ys
  none_behind [] ys all = all
  none_behind (x ∷ xs) ys all = none_behind xs ys all.1

module _ (s : Section) where
  pub section_itself : is_section s s ≡ true
  section_itself = (bytes_eq-Decides (section_word s) (section_word s)).1 refl

  -- this mode is the section's
  abbrev pub is_in : Mode → Bool
  is_in (In t) = is_section s t
  is_in _ = false

  -- outside of the section, what opens it not stays there and ends it not
  one_outside : (m : Mode) (r : Record) → is_in m ≡ false → MayStand m r → is_header s r ≡ false → (is_end s r ≡ false) × (is_in (mode_after m r) ≡ false)
  one_outside Top (top (header t n)) out may other = (refl, other)
  one_outside Top (top (units n)) out may other = (refl, refl)
  one_outside Top (top end_design) out may other = (refl, refl)
  one_outside Top (top properties) out may other = (refl, refl)
  one_outside Top (inl (inr (inr (inr (inr t))))) out may other = (refl, refl)
  one_outside Top (in_properties p) out may other = absurd may
  one_outside Top (end_section t) out may other = absurd may
  one_outside Top (entry e) out may other = absurd may
  one_outside (In t) (top u) out may other = absurd may
  one_outside (In t) (in_properties p) out may other = absurd may
  one_outside (In t) (end_section u) out may other = (ap (is_section s) may ∙ out, refl)
  one_outside (In t) (entry e) out may other = (refl, out)
  one_outside Props (top t) out may other = absurd may
  one_outside Props (in_properties end_properties) out may other = (refl, refl)
  one_outside Props (inr (inl (inr p))) out may other = (refl, refl)
  one_outside Props (end_section t) out may other = absurd may
  one_outside Props (entry e) out may other = absurd may
  one_outside After r out may other = absurd may

  pub outside : (m last : Mode) (xs : Located) → is_in m ≡ false → Walk m xs last → NoneOf (is_header s) xs → NoneOf (is_end s) xs × (is_in last ≡ false)
  outside m last [] out walk none = (tt, ap is_in (sym walk) ∙ out)
  outside m last (x ∷ xs) out walk none =
      let step = one_outside m x.1 out walk.0 none.0 in
      let later = outside (mode_after m x.1) last xs step.1 walk.1 none.1 in
      ((step.0, later.0), later.1)

  -- what stands in the section up to its END, and behind it
  pub record Closed (xs : Located) (last : Mode) : Type 0 where
    pub inside : Located
    pub tokens : List Token
    pub behind : Located
    pub is : xs ≡ inside ++ (tokens, end_section s) ∷ behind
    pub heads : NoneOf (is_header s) inside
    pub ends : NoneOf (is_end s) inside
    pub later : Walk Top behind last

  pub closes : (xs : Located) (last : Mode) → is_after last ≡ true → Walk (In s) xs last → Closed xs last
  closes [] last over walk = let still : is_after (In s) ≡ true = ap is_after walk ∙ over in absurd (cc)
  closes ((ps, top t) ∷ xs) last over walk = absurd walk.0
  closes ((ps, in_properties p) ∷ xs) last over walk = absurd walk.0
  closes ((ps, end_section t) ∷ xs) last over walk = record {
    inside = [];
    tokens = ps;
    behind = xs;
    is = ap (λ (u : Section). (ps, end_section u) ∷ xs) walk.0;
    heads = tt;
    ends = tt;
    later = walk.1;
  }
  closes ((ps, entry e) ∷ xs) last over walk =
      let c = closes xs last over walk.1 in
      record {
        inside = (ps, entry e) ∷ c.inside;
        tokens = c.tokens;
        behind = c.behind;
        is = ap (λ (ys : Located). (ps, entry e) ∷ ys) c.is;
        heads = (refl, c.heads);
        ends = (refl, c.ends);
        later = c.later;
      }
