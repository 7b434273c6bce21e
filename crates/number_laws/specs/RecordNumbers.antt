-- What the numbers of the records of a DEF text pass: each number-valued word the test that its form asks for there.
use Rattle.def_grammar.specs.Numbers.{is_scale, is_count}
use Rattle.def_grammar.specs.Records.{Entry, component, pin, region, group, blockage, net, special_net, via, rule, skipped, Record, top, in_properties, end_section, entry}
use Rattle.def_grammar.specs.Top.{TopRecord, header, units, end_design, properties, extension, die_area, row, tracks, gcell_grid, kept}
use Rattle.number_laws.specs.PartNumbers.{Passes}
use Rattle.number_laws.specs.PlaceNumbers.{ComponentNumbers, PinNumbers, RegionNumbers, BlockageEntryNumbers, DieAreaNumbers, RowNumbers, TracksNumbers, GcellGridNumbers}
use Rattle.number_laws.specs.WireNumbers.{NetEntryNumbers, SpecialNetNumbers, DefViaNumbers, RuleNumbers}

abbrev pub TopNumbers : TopRecord → Type 0
TopNumbers (header s n) = Passes is_count n
TopNumbers (units n) = Passes is_scale n
TopNumbers end_design = Unit {0}
TopNumbers properties = Unit {0}
TopNumbers (extension tokens) = Unit {0}
TopNumbers (die_area area) = DieAreaNumbers area
TopNumbers (row r) = RowNumbers r
TopNumbers (tracks t) = TracksNumbers t
TopNumbers (gcell_grid g) = GcellGridNumbers g
TopNumbers (kept w ws) = Unit {0}

abbrev pub EntryNumbers : Entry → Type 0
EntryNumbers (component c) = ComponentNumbers c
EntryNumbers (pin p) = PinNumbers p
EntryNumbers (region r) = RegionNumbers r
EntryNumbers (group g) = Unit {0}
EntryNumbers (blockage b) = BlockageEntryNumbers b
EntryNumbers (net n) = NetEntryNumbers n
EntryNumbers (special_net n) = SpecialNetNumbers n
EntryNumbers (via v) = DefViaNumbers v
EntryNumbers (rule r) = RuleNumbers r
EntryNumbers (skipped s tokens) = Unit {0}

abbrev pub RecordNumbers : Record → Type 0
RecordNumbers (top t) = TopNumbers t
RecordNumbers (in_properties p) = Unit {0}
RecordNumbers (end_section s) = Unit {0}
RecordNumbers (entry e) = EntryNumbers e
