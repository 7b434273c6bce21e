-- The words that orientations, statuses and sections are written with (LEF/DEF 5.8 Language Reference, "DEF Syntax").
use Rattle.std.specs.Prelude.{ℕ, List, [], ◌∷◌, codes}
use Rattle.design_model.specs.declared.geometry.Orient.{Orient}
use Rattle.design_model.specs.declared.geometry.Orient.TheVariants.{N, W, S, E, FN, FS, FW, FE}
use Rattle.design_model.specs.declared.geometry.Status.{Status}
use Rattle.design_model.specs.declared.geometry.Status.TheVariants.{Placed, Fixed, Cover}
use Rattle.design_model.specs.declared.mode.Section.{Section}
use Rattle.design_model.specs.declared.mode.Section.TheVariants.{Vias, NonDefaultRules, Regions, Components, Pins, Blockages, SpecialNets, Nets, Groups, ScanChains, PinProperties, Slots, Fills, Styles}

unfoldable pub orient_word : Orient → List ℕ
orient_word N = codes "N"
orient_word S = codes "S"
orient_word E = codes "E"
orient_word W = codes "W"
orient_word FN = codes "FN"
orient_word FS = codes "FS"
orient_word FE = codes "FE"
orient_word FW = codes "FW"

abbrev pub orients : List Orient
orients = N ∷ S ∷ E ∷ W ∷ FN ∷ FS ∷ FE ∷ FW ∷ []

unfoldable pub status_word : Status → List ℕ
status_word Placed = codes "PLACED"
status_word Fixed = codes "FIXED"
status_word Cover = codes "COVER"

abbrev pub statuses : List Status
statuses = Placed ∷ Fixed ∷ Cover ∷ []

unfoldable pub section_word : Section → List ℕ
section_word Components = codes "COMPONENTS"
section_word Nets = codes "NETS"
section_word SpecialNets = codes "SPECIALNETS"
section_word Pins = codes "PINS"
section_word Vias = codes "VIAS"
section_word NonDefaultRules = codes "NONDEFAULTRULES"
section_word Regions = codes "REGIONS"
section_word Blockages = codes "BLOCKAGES"
section_word Groups = codes "GROUPS"
section_word ScanChains = codes "SCANCHAINS"
section_word PinProperties = codes "PINPROPERTIES"
section_word Slots = codes "SLOTS"
section_word Fills = codes "FILLS"
section_word Styles = codes "STYLES"

abbrev pub sections : List Section
sections =
    Components ∷ Nets ∷ SpecialNets ∷ Pins ∷ Vias ∷ NonDefaultRules ∷ Regions ∷ Blockages ∷ Groups ∷ ScanChains ∷ PinProperties ∷ Slots ∷ Fills ∷ Styles ∷ []
