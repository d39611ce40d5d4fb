-- Every reason's number, layer and words, and refusals.
use Rattle.std.specs.Prelude.{ℕ, List, ◌++◌, codes, decimal}
use Rattle.records.specs.declared.location.Location.{Location}
use Rattle.records.specs.declared.refusal.Refusal.{Refusal}
use Rattle.records.specs.declared.refusal.Reason.{Reason}
use Rattle.records.specs.declared.refusal.Reason.TheVariants.{TapeTooLong, TextTooLong, RackTooLong, WorkTooShort, PlaceOutsideText, UnknownAlias, Eof, UnexpectedContainerEnd, RackFull, PlaceOutsideRackText, TooDeep, MergeValueNotMapOrSeqOfMaps, MergeKeyNotAllowed, EntriesFull, DuplicateMappingKey, NoHeldNode, NoOutermostNode}
use Rattle.records.specs.declared.refusal.Layer.{Layer}
use Rattle.records.specs.declared.refusal.Layer.TheVariants.{Call, Source, Capture, Collect}

abbrev pub number_of : Reason → ℕ
number_of TapeTooLong = 1
number_of TextTooLong = 2
number_of RackTooLong = 3
number_of WorkTooShort = 4
number_of PlaceOutsideText = 7
number_of UnknownAlias = 8
number_of Eof = 10
number_of UnexpectedContainerEnd = 11
number_of RackFull = 13
number_of PlaceOutsideRackText = 14
number_of TooDeep = 15
number_of MergeValueNotMapOrSeqOfMaps = 16
number_of MergeKeyNotAllowed = 17
number_of EntriesFull = 18
number_of (DuplicateMappingKey key) = 19
number_of NoHeldNode = 20
number_of NoOutermostNode = 21

abbrev pub layer_of : Reason → Layer
layer_of TapeTooLong = Call
layer_of TextTooLong = Call
layer_of RackTooLong = Call
layer_of WorkTooShort = Call
layer_of PlaceOutsideText = Source
layer_of UnknownAlias = Source
layer_of Eof = Capture
layer_of UnexpectedContainerEnd = Capture
layer_of RackFull = Capture
layer_of PlaceOutsideRackText = Capture
layer_of TooDeep = Capture
layer_of MergeValueNotMapOrSeqOfMaps = Collect
layer_of MergeKeyNotAllowed = Collect
layer_of EntriesFull = Collect
layer_of (DuplicateMappingKey key) = Collect
layer_of NoHeldNode = Call
layer_of NoOutermostNode = Call

-- a refusal for a reason at a location, where no record of a tape is faulty
abbrev pub refused_at : Reason → Location → Refusal
refused_at r l = record { reason = r; location = l; offset = 0 }

-- what is wrong, in words
abbrev pub complaint : Reason → List ℕ
complaint TapeTooLong = codes "the tape has more than 65,536 records"
complaint TextTooLong = codes "the text has more than 65,536 bytes"
complaint RackTooLong = codes "the rack has more than 65,535 slots"
complaint WorkTooShort = codes "the working memory is too short"
complaint PlaceOutsideText = codes "a place of the record leaves the text"
complaint UnknownAlias = codes "the anchor of the alias is not known"
complaint Eof = codes "the events end inside a node"
complaint UnexpectedContainerEnd = codes "a sequence or mapping ends where a node should begin"
complaint RackFull = codes "the rack is full"
complaint PlaceOutsideRackText = codes "a place of the event leaves the rack's text"
complaint TooDeep = codes "more than 64 sequences and mappings stand in one another"
complaint MergeValueNotMapOrSeqOfMaps = codes "what is merged is no mapping"
complaint MergeKeyNotAllowed = codes "merge keys are not allowed here"
complaint EntriesFull = codes "the entry table is full"
complaint (DuplicateMappingKey key) = codes "the key stands twice in its mapping"
complaint NoHeldNode = codes "no held node begins at this slot"
complaint NoOutermostNode = codes "no outermost node begins at this slot"

abbrev pub layer_word : Layer → List ℕ
layer_word Call = codes "call"
layer_word Source = codes "source"
layer_word Capture = codes "capture"
layer_word Collect = codes "collect"

-- where a refusal arose: the faulty record's number, or else line and column
abbrev pub whereabouts : Refusal → Reason → List ℕ
whereabouts e PlaceOutsideText = codes ", at record " ++ decimal e.offset
whereabouts e r = codes ", at line " ++ decimal e.location.line ++ codes ", column " ++ decimal e.location.column

-- a refusal in one line
abbrev pub report : Refusal → List ℕ
report e = codes "refusal " ++ decimal (number_of e.reason) ++ codes " (" ++ layer_word (layer_of e.reason) ++ codes "): " ++ complaint e.reason ++ whereabouts e e.reason
