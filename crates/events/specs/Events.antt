-- What reaches the device, a MIDI byte or the report of an ended generator.
use Rattle.std.specs.Prelude.{ℕ}
use Rattle.device.specs.declared.Device.{Device}
use Rattle.device.specs.declared.Output.{Output}
use Rattle.device.specs.Device.{output_of, byte_taken}
use Rattle.reports.specs.Reports.{reported}
use Rattle.events.specs.declared.Event.{Event}
use Rattle.events.specs.declared.Event.TheVariants.{Byte, Report}

-- R7.1: a report leaves the parser as it is
unfoldable pub report_taken : Device → ℕ → Output
report_taken d g = output_of d.parser (reported d.instrument g)

-- R1.11: what a call by value gives, and a call over a lent record too
unfoldable pub taken : Device → Event → Output
taken d (Byte b) = byte_taken d b
taken d (Report g) = report_taken d g
