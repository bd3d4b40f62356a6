-- The purpose of the links of a body, as the code names it.
use Rattle.std.specs.Prelude.{Bool, true, is_none}
use Rattle.message_model.specs.Message.{Message}
use Rattle.message_model.specs.Request.{queries_in}
use Rattle.record_model.specs.declared.readings.Reading.TheVariants as reading
use Rattle.record_model.specs.Criteria.{fault_of}
use Rattle.record_model.specs.Parameters.{registration_values}
use Rattle.journal_model.specs.Changes as changes
use Rattle.rd_desk.specs.declared.write.asked.Purpose.{Purpose}
use Rattle.rd_desk.specs.declared.write.asked.Purpose.TheVariants as purpose

-- Returns a registration with the parameters of the request, or a replacement of the links of the
-- registration with a number.
abbrev pub purpose_of : Purpose → Message → changes.Purpose
purpose_of purpose.Register m = changes.to_register (registration_values (queries_in m))
purpose_of (purpose.Replace number) m = changes.to_replace number

-- Returns whether the query options of a registration are not refused. Those of a replacement are
-- ignored.
abbrev pub has_good_params : Purpose → Message → Bool
has_good_params purpose.Register m = is_none (fault_of reading.Register (queries_in m))
has_good_params (purpose.Replace number) m = true
