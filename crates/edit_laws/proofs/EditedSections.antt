-- What is made of a design by its parts: a section's number, an entry last in it, and one taken out.
use Rattle.std.proofs.Common.{◌≡◌, inl, inr, ℕ, Bool, true, false, not, List, [], ◌∷◌, ◌++◌, map, decimal, refl, sym, ap, ap₂, ◌∙◌, append-nil, if◌then◌else◌}
use Rattle.std.specs.Prelude.{filter, flat_map}
use Rattle.std.proofs.lemmas.List.{map-append}
use Rattle.std.proofs.lemmas.List.Elements.{filter-append}
use Rattle.std.proofs.lemmas.Grind.{flat_map-append}
use Rattle.design_model.specs.declared.mode.Section.{Section}
use Rattle.statement_model.specs.Tokens.{Token}
use Rattle.statement_model.specs.Grammar.{Key}
use Rattle.def_grammar.specs.Located.{is_entry}
use Rattle.def_grammar.specs.Records.{Entry, Record, top, in_properties, end_section, entry, entry_of, key_of}
use Rattle.def_grammar.specs.Top.{header}
use Rattle.edit_rules.specs.SectionEdits.{is_section, is_header, is_end, counted, recounted, last_before, with_last, is_other, without}
use Rattle.edit_laws.specs.StatementLaws.{records}
use Rattle.edit_laws.proofs.SectionModes.{Located, NoneOf, section_itself}

module _ (s : Section) where
  -- another number in a header leaves its key
  counted_key : (n : ℕ) (r : Record) → key_of (counted s n r) ≡ key_of r
  counted_key n (top (header t old)) = refl
  counted_key n (inl (inr t)) = refl
  counted_key n (in_properties p) = refl
  counted_key n (end_section t) = refl
  counted_key n (entry e) = refl

  pub recounted_keys : (n : ℕ) (recs : List Record) → map key_of (recounted s n recs) ≡ map key_of recs
  recounted_keys n [] = refl
  recounted_keys n (r ∷ recs) = ap₂ (λ (k : Key) (ks : List Key). k ∷ ks) (counted_key n r) (recounted_keys n recs)

  -- what is no header of the section stays
  counted_stays : (n : ℕ) (r : Record) → is_header s r ≡ false → counted s n r ≡ r
  counted_stays n (top (header t old)) other = rw other refl
  counted_stays n (inl (inr t)) other = refl
  counted_stays n (in_properties p) other = refl
  counted_stays n (end_section t) other = refl
  counted_stays n (entry e) other = refl

  pub recounted_stays : (n : ℕ) (xs : Located) → NoneOf (is_header s) xs → recounted s n (records xs) ≡ records xs
  recounted_stays n [] none = refl
  recounted_stays n (x ∷ xs) none = ap₂ (λ (r : Record) (rs : List Record). r ∷ rs) (counted_stays n x.1 none.0) (recounted_stays n xs none.1)

  counted_here : (n : ℕ) (old : List ℕ) → counted s n (top (header s old)) ≡ top (header s (decimal n))
  counted_here n old = rw (section_itself s) refl

  -- the only header, and what stands before it and behind it
  pub recounted_parts : (n : ℕ) (old : List ℕ) (before : Located) (behind : List Record) → NoneOf (is_header s) before → recounted s n behind ≡ behind
      → recounted s n (records before ++ top (header s old) ∷ behind) ≡ records before ++ top (header s (decimal n)) ∷ behind
  recounted_parts n old before behind none stays =
      map-append (counted s n) (records before) (top (header s old) ∷ behind)
      ∙ (ap (λ (rs : List Record). rs ++ counted s n (top (header s old)) ∷ recounted s n behind) (recounted_stays n before none)
      ∙ ap₂ (λ (r : Record) (rs : List Record). records before ++ r ∷ rs) (counted_here n old) stays)

  -- before what isn't its END nothing comes
  pub last_stays : (e : Entry) (xs : Located) → NoneOf (is_end s) xs → with_last s e (records xs) ≡ records xs
  last_stays e [] none = refl
  last_stays e (x ∷ xs) none = rw none.0 (ap (λ (rs : List Record). x.1 ∷ rs) (last_stays e xs none.1))

  pub last_parts : (e : Entry) (front behind : Located) → NoneOf (is_end s) front → NoneOf (is_end s) behind → with_last s e (records front ++ end_section s ∷ records behind) ≡ records front ++ entry e ∷ end_section s ∷ records behind
  last_parts e front behind none none_behind =
      flat_map-append (last_before s e) (records front) (end_section s ∷ records behind)
      ∙ (ap (λ (rs : List Record). rs ++ with_last s e (end_section s ∷ records behind)) (last_stays e front none)
      ∙ ap (λ (rs : List Record). records front ++ rs) (rw (section_itself s) (ap (λ (rs : List Record). entry e ∷ end_section s ∷ rs) (last_stays e behind none_behind))))

  -- the entries of other names stay
  abbrev pub has_name : List ℕ → Record → Bool
  has_name name r = is_entry s name (entry_of r)

  pub without_stays : (name : List ℕ) (xs : Located) → NoneOf (has_name name) xs → without s name (records xs) ≡ records xs
  without_stays name [] none = refl
  without_stays name (x ∷ xs) none = rw none.0 (ap (λ (rs : List Record). x.1 ∷ rs) (without_stays name xs none.1))

  pub without_parts : (name : List ℕ) (front behind : Located) (e : Entry) → NoneOf (has_name name) front → NoneOf (has_name name) behind → has_name name (entry e) ≡ true
      → without s name (records front ++ entry e ∷ records behind) ≡ records front ++ records behind
  without_parts name front behind e none none_behind is =
      filter-append (is_other s name) (records front) (entry e ∷ records behind)
      ∙ ap₂ (λ (xs ys : List Record). xs ++ ys) (without_stays name front none) (rw is (without_stays name behind none_behind))
