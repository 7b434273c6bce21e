-- The lines of a script, and what each asks (own).
use Rattle.std.specs.Prelude.{ℕ, Bool, true, false, not, ◌||◌, ◌==◌, List, [], ◌∷◌, length, filter, drop, take_while, Option, Some, None, unwrap_or, Result, Ok, Err, ℤ, pos, codes, if◌then◌else◌}
use Rattle.std.specs.List.{slice_split}
use Rattle.design_model.specs.declared.number.NumFault.{NumFault}
use Rattle.edit_model.specs.declared.edit.EditCode.{EditCode}
use Rattle.edit_model.specs.declared.edit.EditCode.TheVariants.{Number, Range}
use Rattle.design_model.specs.declared.mode.Section.{Section}
use Rattle.design_model.specs.EnumWords.{orient_word, orients, section_word, sections}
use Rattle.design_model.specs.Units.{whole}
use Rattle.form_meanings.specs.Words.{◌>>=◌, first}
use Rattle.form_meanings.specs.Meaning.{find}
use Rattle.def_grammar.specs.Located.{or_later}
use Rattle.edit_rules.specs.ComponentEdits.{remaster_as, unplace_it}
use Rattle.edit_rules.specs.Edits.{Change, of_component, of_net, of_section, place}
use Rattle.edit_rules.specs.NetEdits.{connect_to, disconnect_from, route_by, unroute_all}
use Rattle.edit_rules.specs.SectionEdits.{add_blockage, add_component, remove_component}
use Rattle.edit_rules.specs.Runs.{Step, design_edit, text_edit}

-- a line without the carriage return before its line feed
abbrev pub ends_in_return : List ℕ → Bool
ends_in_return [] = false
ends_in_return (b ∷ []) = b == 13
ends_in_return (b ∷ c ∷ cs) = ends_in_return (c ∷ cs)

abbrev pub without_last_byte : List ℕ → List ℕ
without_last_byte [] = []
without_last_byte (b ∷ []) = []
without_last_byte (b ∷ c ∷ cs) = b ∷ without_last_byte (c ∷ cs)

abbrev pub trimmed : List ℕ → List ℕ
trimmed line = if ends_in_return line then without_last_byte line else line

-- the parts between line feeds, where only those with a line feed behind them lose their carriage return
abbrev pub trimmed_lines : List (List ℕ) → List (List ℕ)
trimmed_lines [] = []
trimmed_lines (l ∷ []) = l ∷ []
trimmed_lines (l ∷ m ∷ ls) = trimmed l ∷ trimmed_lines (m ∷ ls)

abbrev pub script_lines : List ℕ → List (List ℕ)
script_lines script = trimmed_lines (slice_split (λ b. b == 10) script)

-- the words of a line, parted by spaces and tabs
abbrev pub is_some_word : List ℕ → Bool
is_some_word [] = false
is_some_word (b ∷ bs) = true

abbrev pub is_blank : ℕ → Bool
is_blank b = b == 32 || b == 9

abbrev pub line_words : List ℕ → List (List ℕ)
line_words line = filter is_some_word (slice_split is_blank line)

-- what is left of a line after such bytes, and after its first word
abbrev pub past : (ℕ → Bool) → List ℕ → List ℕ
past test line = drop (length (take_while test line)) line

abbrev pub after_word : List ℕ → List ℕ
after_word line = past (λ b. not (is_blank b)) (past is_blank line)

-- the first word of a line, and what stands behind it
abbrev pub first_word : List ℕ → Option (List ℕ × List ℕ)
first_word line = first (line_words line) >>= λ w. Some (w, after_word line)

-- a line without words, and the words of a line that has so many
abbrev pub no_words : List (List ℕ) → Bool
no_words [] = true
no_words ws = false

abbrev pub one_word : List (List ℕ) → Option (List ℕ)
one_word (a ∷ []) = Some a
one_word ws = None

abbrev pub two_words : List (List ℕ) → Option (List ℕ × List ℕ)
two_words (a ∷ b ∷ []) = Some (a, b)
two_words ws = None

abbrev pub three_words : List (List ℕ) → Option (List ℕ × List ℕ × List ℕ)
three_words (a ∷ b ∷ c ∷ []) = Some (a, b, c)
three_words ws = None

abbrev pub four_words : List (List ℕ) → Option (List ℕ × List ℕ × List ℕ × List ℕ)
four_words (a ∷ b ∷ c ∷ d ∷ []) = Some (a, b, c, d)
four_words ws = None

abbrev pub five_words : List (List ℕ) → Option (List ℕ × List ℕ × List ℕ × List ℕ × List ℕ)
five_words (a ∷ b ∷ c ∷ d ∷ e ∷ []) = Some (a, b, c, d, e)
five_words ws = None

-- what a line asks of a design
pub data Question : Type 0 where
  report : Question
  shown : Section → List ℕ → Question
  total_length : Question
  length_of : List ℕ → Question
  box_of : List ℕ → Question
  density_of : Result ℤ NumFault → Result ℤ NumFault → List ℕ → Question
  place_density_of : Result ℤ NumFault → Result ℤ NumFault → Question

-- what a line of a script asks: one with a wrong number is refused before the session is asked
pub data Order : Type 0 where
  nothing : Order
  make : Step → Order
  refuse : EditCode → Order
  ask : Question → Order
  bad : Order

-- the number that a word is; an invalid one counts as out of range
abbrev pub number_or_out : Result ℤ NumFault → ℤ
number_or_out (Ok n) = n
number_or_out (Err e) = pos 2147483648

-- the byte that is written with a backslash and this one
abbrev pub escaped : ℕ → Option ℕ
escaped b =
    if b == 110 then Some 10
    else (if b == 114 then Some 13
    else (if b == 116 then Some 9
    else (if b == 92 then Some 92
    else None)))

-- the bytes that a text with such escapes is written for
unfoldable pub unescaped : List ℕ → Option (List ℕ)
unescaped [] = Some []
unescaped (b ∷ []) = if b == 92 then None else Some (b ∷ [])
unescaped (b ∷ c ∷ cs) =
    if b == 92 then (escaped c >>= λ e. (unescaped cs >>= λ es. Some (e ∷ es)))
    else (unescaped (c ∷ cs) >>= λ es. Some (b ∷ es))

-- a range by its ends: an invalid number, and then one below 0, is refused
abbrev pub range_order : List ℕ → Result ℤ NumFault → Result ℤ NumFault → Order
range_order put (Ok (pos a)) (Ok (pos b)) = make (text_edit a b put)
range_order put (Ok a) (Ok b) = refuse Range
range_order put (Err e) b = refuse Number
range_order put (Ok a) (Err e) = refuse Number

-- What a command asks by what stands behind its name.
-- `place c x y o`
abbrev pub place_order : List ℕ → Option Order
place_order line = do
  (c, x, y, o) ← four_words (line_words line)
  orient ← find orient_word orients o
  Some (make (design_edit (place c (number_or_out (whole x)) (number_or_out (whole y)) orient)))

-- `check`
abbrev pub check_order : List ℕ → Option Order
check_order line = if no_words (line_words line) then Some (ask report) else None

-- `text a b NEW`, where NEW is all that stands one byte behind b, as it is written
abbrev pub text_order : List ℕ → Option Order
text_order line = do
  (a, later) ← first_word line
  (b, left) ← first_word later
  put ← unescaped (drop 1 left)
  Some (range_order put (whole a) (whole b))

-- `show S n`
abbrev pub show_order : List ℕ → Option Order
show_order line = do
  (s, name) ← two_words (line_words line)
  section ← find section_word sections s
  Some (ask (shown section name))

-- `length`, or `length n`
abbrev pub total_order : List ℕ → Option Order
total_order line = if no_words (line_words line) then Some (ask total_length) else None

abbrev pub net_length_order : List ℕ → Option Order
net_length_order line = one_word (line_words line) >>= λ n. Some (ask (length_of n))

abbrev pub length_order : List ℕ → Option Order
length_order line = or_later (total_order line) (net_length_order line)

-- `box n`
abbrev pub box_order : List ℕ → Option Order
box_order line = one_word (line_words line) >>= λ n. Some (ask (box_of n))

-- `cell i j l`
abbrev pub cell_order : List ℕ → Option Order
cell_order line = do
  (i, j, layer) ← three_words (line_words line)
  Some (ask (density_of (whole i) (whole j) layer))

-- `pcell i j`
abbrev pub place_cell_order : List ℕ → Option Order
place_cell_order line = do
  (i, j) ← two_words (line_words line)
  Some (ask (place_density_of (whole i) (whole j)))

-- an edit that a line asks for
abbrev pub change_order : Change → Option Order
change_order change = Some (make (design_edit change))

-- `unplace c`
abbrev pub unplace_order : List ℕ → Option Order
unplace_order line = one_word (line_words line) >>= λ c. change_order (of_component c unplace_it)

-- `remaster c m`
abbrev pub remaster_order : List ℕ → Option Order
remaster_order line = do
  (c, m) ← two_words (line_words line)
  change_order (of_component c (remaster_as m))

-- `add c m`
abbrev pub add_order : List ℕ → Option Order
add_order line = do
  (c, m) ← two_words (line_words line)
  change_order (of_section (add_component c m))

-- `remove c`
abbrev pub remove_order : List ℕ → Option Order
remove_order line = one_word (line_words line) >>= λ c. change_order (of_section (remove_component c))

-- `connect n c p`
abbrev pub connect_order : List ℕ → Option Order
connect_order line = do
  (n, c, p) ← three_words (line_words line)
  change_order (of_net n (connect_to c p))

-- `disconnect n c p`
abbrev pub disconnect_order : List ℕ → Option Order
disconnect_order line = do
  (n, c, p) ← three_words (line_words line)
  change_order (of_net n (disconnect_from c p))

-- `route n WIRING`, where WIRING is all that stands from its first byte on
abbrev pub route_to : List ℕ → List ℕ → Option Order
route_to n [] = None
route_to n wiring = change_order (of_net n (route_by wiring))

abbrev pub route_order : List ℕ → Option Order
route_order line = do
  (n, later) ← first_word line
  route_to n (past is_blank later)

-- `unroute n`
abbrev pub unroute_order : List ℕ → Option Order
unroute_order line = one_word (line_words line) >>= λ n. change_order (of_net n unroute_all)

-- `block x1 y1 x2 y2`, or `block l x1 y1 x2 y2`
abbrev pub coordinate : List ℕ → ℤ
coordinate w = number_or_out (whole w)

abbrev pub placement_order : List ℕ → Option Order
placement_order line = do
  (x1, y1, x2, y2) ← four_words (line_words line)
  change_order (of_section (add_blockage None (coordinate x1) (coordinate y1) (coordinate x2) (coordinate y2)))

abbrev pub layer_order : List ℕ → Option Order
layer_order line = do
  (layer, x1, y1, x2, y2) ← five_words (line_words line)
  change_order (of_section (add_blockage (Some layer) (coordinate x1) (coordinate y1) (coordinate x2) (coordinate y2)))

abbrev pub block_order : List ℕ → Option Order
block_order line = or_later (placement_order line) (layer_order line)

-- the commands by their names: what is asked of a design, edits of a component, of a net, and of a section, and of the text
abbrev pub Command : Type 0
Command = List ℕ × (List ℕ → Option Order)

abbrev pub questions : List Command
questions =
    (codes "check", check_order) ∷ (codes "show", show_order) ∷ (codes "length", length_order) ∷ (codes "box", box_order) ∷ (codes "cell", cell_order)
    ∷ (codes "pcell", place_cell_order) ∷ []

abbrev pub component_edits : List Command
component_edits = (codes "place", place_order) ∷ (codes "unplace", unplace_order) ∷ (codes "remaster", remaster_order) ∷ []

abbrev pub net_edits : List Command
net_edits = (codes "connect", connect_order) ∷ (codes "disconnect", disconnect_order) ∷ (codes "route", route_order) ∷ (codes "unroute", unroute_order) ∷ []

abbrev pub section_edits : List Command
section_edits = (codes "add", add_order) ∷ (codes "remove", remove_order) ∷ (codes "block", block_order) ∷ (codes "text", text_order) ∷ []

abbrev pub order_in : List Command → List ℕ → List ℕ → Option Order
order_in commands name line = find (λ c. c.0) commands name >>= λ c. c.1 line

-- a name, and what stands behind it
abbrev pub named_order : List ℕ → List ℕ → Option Order
named_order name line = or_later (order_in questions name line) (or_later (order_in component_edits name line) (or_later (order_in net_edits name line) (order_in section_edits name line)))

abbrev pub words_order : Option (List ℕ × List ℕ) → Order
words_order None = nothing
words_order (Some (name, line)) = unwrap_or (named_order name line) bad

-- a line that starts with # is passed over
abbrev pub order_of : List ℕ → Order
order_of [] = nothing
order_of (b ∷ bs) = if b == 35 then nothing else words_order (first_word (b ∷ bs))
