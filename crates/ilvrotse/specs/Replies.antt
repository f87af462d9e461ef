-- What a reply to a host program tells.
use Rattle.recording.specs.Record.{Answer}
use Rattle.ilvrotse.specs.declared.Reply.{Reply}

unfoldable pub told : Reply → Answer
told r = record { number = r.number; place = r.place }
