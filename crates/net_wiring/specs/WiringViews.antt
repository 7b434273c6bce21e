-- Clauses of an entry of a net by what they are to its wiring, and the plans of routing the net by them.
use Rattle.std.specs.Prelude.{◌≡◌, ◌⊎◌, ℕ, suc, ◌+◌, Bool, true, false, not, ◌||◌, List, [], ◌∷◌, ◌++◌, length, map, Option, Some, None, Result, Ok, Err, codes, if◌then◌else◌}
use Rattle.std.specs.List.{list_any}
use Rattle.design_model.specs.declared.fault.Fault.{Fault}
use Rattle.form_meanings.specs.Words.{◌>>=◌, Rest, is_done, is_plus, is_word, key, next_passes, start}
use Rattle.form_meanings.specs.Meaning.{spell_all}
use Rattle.statement_model.specs.Boundaries.{words}
use Rattle.statement_model.specs.Form.{Form, left, many, read, right, spell}
use Rattle.statement_model.specs.Tokens.{Open, Token, between, comment, string, tokens, word}
use Rattle.def_grammar.specs.Clauses.{KeptClause}
use Rattle.def_grammar.specs.Nets.{is_net, net_clause}
use Rattle.def_grammar.specs.Parts.{is_some}
use Rattle.def_grammar.specs.Records.{Entry, net, special_net}
use Rattle.def_grammar.specs.SpecialNets.{special_clause}
use Rattle.def_grammar.specs.Terminals.{Terminal, terminal}
use Rattle.lefdef_tokens.specs.Places.{behind, past}
use Rattle.lefdef_tokens.specs.Views.{pieces_of}
use Rattle.lefdef_tokens.specs.declared.token_run.TokenRun.{TokenRun}
use Rattle.wire_parts.specs.NetViews.{net_by_word, net_clauses_of}
use Rattle.wire_parts.specs.SpecialNetViews.{special_by_word, special_clauses_of}
use Rattle.edit_rules.specs.NetEdits.{Role, apart, wiring, barring, is_barring, is_held, is_wiring, net_role, opens_comment, special_role, whole_text}
use Rattle.net_wiring.specs.declared.wiring_clauses.Role as code_role
use Rattle.net_wiring.specs.declared.wiring_clauses.Role.TheVariants as roles
use Rattle.net_wiring.specs.declared.wiring_clauses.RoleTest as code_test
use Rattle.net_wiring.specs.declared.wiring_clauses.RoleTest.TheVariants as tests
use Rattle.net_wiring.specs.declared.wiring_clauses.EntryClauses as code_clauses
use Rattle.net_wiring.specs.declared.wiring_clauses.EntryClauses.TheVariants as clauses
use Rattle.net_wiring.specs.declared.wiring_clauses.NetSection as code_section
use Rattle.net_wiring.specs.declared.wiring_clauses.NetSection.TheVariants as sections
use Rattle.net_wiring.specs.declared.comments.Within as code_open
use Rattle.net_wiring.specs.declared.comments.Within.TheVariants as opens

abbrev pub role_view : code_role.Role → Role
role_view roles.Apart = apart
role_view (roles.Wiring held) = wiring held
role_view roles.Barring = barring

abbrev pub is_other : Role → Bool
is_other r = not (is_wiring r)

abbrev pub passes : Role → code_test.RoleTest → Bool
passes r tests.Wiring = is_wiring r
passes r tests.Other = is_other r
passes r tests.Held = is_held r
passes r tests.Barring = is_barring r

-- clauses, each as what it is to wiring and how many tokens it has
abbrev pub Clauses : Type 0
Clauses = List (Role × ℕ)

abbrev pub shown : {C : Type 0} → Form C → (C → Role) → List C → Clauses
shown form role cs = map (λ c. (role c, length (spell form c))) cs

-- one of them passes a test
abbrev pub any_passes : (Role → Bool) → Clauses → Bool
any_passes t xs = list_any (λ x. t x.0) xs

-- those from the first that passes a test on, and how many tokens those before it have
abbrev pub from_first : (Role → Bool) → Clauses → Clauses
from_first t [] = []
from_first t (x ∷ xs) = if t x.0 then x ∷ xs else from_first t xs

abbrev pub size_before : (Role → Bool) → Clauses → ℕ
size_before t [] = 0
size_before t (x ∷ xs) = if t x.0 then 0 else x.1 + size_before t xs

-- the clauses from the wiring on, and those behind it
abbrev pub wiring_on : Clauses → Clauses
wiring_on xs = from_first is_wiring xs

abbrev pub behind_it : Clauses → Clauses
behind_it xs = from_first is_other (wiring_on xs)

abbrev pub is_barred : Clauses → Bool
is_barred xs = any_passes is_wiring (behind_it xs) || any_passes is_barring xs

-- the words that begin wiring in SPECIALNETS
abbrev pub special_words : List (List ℕ)
special_words = codes "ROUTED" ∷ codes "FIXED" ∷ codes "COVER" ∷ codes "SHIELD" ∷ codes "RECT" ∷ codes "VIA" ∷ codes "POLYGON" ∷ codes "SHAPE" ∷ codes "MASK" ∷ []

-- of the clauses that were left, with so many tokens, the first has this role
pub record IsNextRole (old new : Clauses) (old_tokens new_tokens : ℕ) (role : code_role.Role) : Type 0 where
  pub count : ℕ
  pub step : old ≡ (role_view role, count) ∷ new
  pub fewer : old_tokens ≡ count + new_tokens

-- an entry that may have wiring, and its clauses
abbrev pub is_wired : Entry → Bool
is_wired (net (is_net n)) = true
is_wired (special_net n) = true
is_wired _ = false

abbrev pub clauses_in : Entry → Clauses
clauses_in (net (is_net n)) = shown net_clause net_role n.clauses
clauses_in (special_net n) = shown special_clause special_role n.clauses
clauses_in _ = []

abbrev pub nets_in : Entry → code_section.NetSection
nets_in (special_net n) = sections.SpecialNets
nets_in _ = sections.Nets

abbrev pub left_of : code_clauses.EntryClauses → Clauses
left_of (clauses.Net parts) = shown net_clause net_role (net_clauses_of parts)
left_of (clauses.SpecialNet parts) = shown special_clause special_role (special_clauses_of parts)

abbrev pub section_of : code_clauses.EntryClauses → code_section.NetSection
section_of (clauses.Net parts) = sections.Nets
section_of (clauses.SpecialNet parts) = sections.SpecialNets

abbrev pub tokens_of : code_clauses.EntryClauses → TokenRun
tokens_of (clauses.Net parts) = parts.cursor.tokens
tokens_of (clauses.SpecialNet parts) = parts.cursor.tokens

-- they stand behind the terminals of the entry that begins with these tokens
abbrev pub StandBehind : List Token → List Terminal → code_clauses.EntryClauses → Type 0
StandBehind ps ts cs = pieces_of (tokens_of cs) ≡ behind (spell_all (spell terminal) ts) (past 2 ps)

-- the clauses are those of this entry
pub record AreOf (e : Entry) (cs : code_clauses.EntryClauses) : Type 0 where
  pub wired : is_wired e ≡ true
  pub shows : clauses_in e ≡ left_of cs
  pub section : nets_in e ≡ section_of cs

-- What a text says, by a reading of its words with a ; behind them.
abbrev pub said_in : (List (List ℕ) → Bool) → Result ℕ Fault → List Token → Bool
said_in reads (Err fault) ps = false
said_in reads (Ok n) ps = reads (words ps ++ codes ";" ∷ [])

abbrev pub is_said : (List (List ℕ) → Bool) → List ℕ → Bool
is_said reads text = if opens_comment between text then false else said_in reads (tokens text).end (tokens text).pieces

-- words that are wiring clauses and one word behind them
abbrev pub are_wiring : {C : Type 0} → Form C → (C → Role) → List (List ℕ) → Bool
are_wiring form role ws = is_some (whole_text form role (read (many is_plus form) (start ws)))

-- in a section of nets
abbrev pub reads_wiring : code_section.NetSection → List (List ℕ) → Bool
reads_wiring sections.Nets ws = are_wiring net_clause net_role ws
reads_wiring sections.SpecialNets ws = are_wiring special_clause special_role ws

-- what is open at a place of a text, without where it began and its bytes
abbrev pub bare : Open → Open
bare between = between
bare comment = comment
bare (word at bytes) = word 0 []
bare (string at bytes last) = string 0 [] last

abbrev pub open_view : code_open.Within → Open
open_view opens.Between = between
open_view opens.Word = word 0 []
open_view (opens.Quotes last) = string 0 [] last

-- What is left of a text, with a ; behind it: one word more, also where the first invalid number stands.
abbrev pub one_more : Option ℕ → Option ℕ
one_more None = None
one_more (Some n) = Some (suc n)

abbrev pub closed_rest : Rest → Rest
closed_rest r = record { words = r.words ++ codes ";" ∷ []; bad = one_more r.bad }

-- what is left behind a clause that is wiring
abbrev pub if_wiring : {C : Type 0} → (C → Role) → Option (C × Rest) → Option Rest
if_wiring role None = None
if_wiring role (Some x) = if is_wiring (role x.0) then Some x.1 else None

-- behind a wiring clause with the + or ; that ends it
abbrev pub past_clause : {C : Type 0} → Form C → (C → Role) → Rest → Option Rest
past_clause form role r = if_wiring role (read form r)

-- behind one whose body reads, whatever comes there
abbrev pub past_body : {B : Type 0} → Form B → (List (List ℕ) ⊎ (B ⊎ KeptClause) → Role) → Rest → Option Rest
past_body body role r = key (codes "+") r >>= λ s. (if next_passes (is_word (codes "SUBNET")) s then None else if_wiring role (read (right (left body)) s))

-- no word comes there
abbrev pub is_ended : Option Rest → Bool
is_ended None = false
is_ended (Some r) = is_done r

-- the same in a section
abbrev pub past_clause_in : Rest → code_section.NetSection → Option Rest
past_clause_in r sections.Nets = past_clause net_clause net_role r
past_clause_in r sections.SpecialNets = past_clause special_clause special_role r

abbrev pub past_body_in : Rest → code_section.NetSection → Option Rest
past_body_in r sections.Nets = past_body net_by_word net_role r
past_body_in r sections.SpecialNets = past_body special_by_word special_role r

-- the words that are left are wiring clauses alone, where a ; comes behind them
abbrev pub said_from : Rest → code_section.NetSection → Bool
said_from r sections.Nets = is_some (whole_text net_clause net_role (read (many is_plus net_clause) (closed_rest r)))
said_from r sections.SpecialNets = is_some (whole_text special_clause special_role (read (many is_plus special_clause) (closed_rest r)))
