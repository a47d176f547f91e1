-- Operations on several records, one after another: their calls of the device, and how they end.
use Rattle.std.specs.Prelude.{ℕ, List, [], ◌∷◌, ◌++◌, Ok, Err, if◌then◌else◌}
use Rattle.std.specs.Result.{is_ok}
use Rattle.erst_store.specs.Device.{Device}
use Rattle.board_core.specs.Doing.{DeviceCall, after_acts}
use Rattle.board_core.specs.Told.{Told, device_of}
use Rattle.erst_interp.specs.Run.{acts_of}
use Rattle.erst_driver.specs.Answers.{Answer, answer_on_found}

-- the calls of an operation on the record under an identifier, over a device
abbrev pub Operation : Type 0
Operation = ℕ → Device → List DeviceCall

-- the model after calls of the device
abbrev pub after_calls : List DeviceCall → Told → Told
after_calls calls t = after_acts (acts_of calls) t

-- One operation for each identifier, each over the device after the operations before it. The first that doesn't
-- succeed is the last.
abbrev pub each_calls : Operation → List ℕ → Told → List DeviceCall
each_calls operation [] t = []
each_calls operation (id ∷ ids) t =
    operation id (device_of t)
    ++ (if is_ok (answer_on_found id (device_of t))
    then each_calls operation ids (after_calls (operation id (device_of t)) t) else [])

-- How the operations end: they succeed, or end as the first one that doesn't succeed.
abbrev pub after_answer : Answer → Answer → Answer
after_answer (Ok done) later = later
after_answer (Err why) later = Err why

-- the result of the operations on these identifiers, one after another
abbrev pub each_answer : Operation → List ℕ → Told → Answer
each_answer operation [] t = Ok tt
each_answer operation (id ∷ ids) t =
    after_answer (answer_on_found id (device_of t))
    (each_answer operation ids (after_calls (operation id (device_of t)) t))
