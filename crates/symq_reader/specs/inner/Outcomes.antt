-- Why the fast path gives up, by the error below it.
use Rattle.json.specs.declared.error.Error.{Error}
use Rattle.json.specs.declared.error.Error.TheVariants as json
use Rattle.symq_reader.specs.declared.faults.FormatFault.{FormatFault}
use Rattle.symq_reader.specs.declared.faults.FormatFault.TheVariants as format
use Rattle.symq_reader.specs.declared.stream.FastPathFault.{FastPathFault}
use Rattle.symq_reader.specs.declared.stream.FastPathFault.TheVariants.{OutOfMemory, Unsupported}

-- a failed allocation stays one, and any other fault is unsupported
abbrev pub fast_path_fault_of_format_fault : FormatFault → FastPathFault
fast_path_fault_of_format_fault format.OutOfMemory = OutOfMemory
fast_path_fault_of_format_fault _ = Unsupported

abbrev pub fast_path_fault_of_json_error : Error → FastPathFault
fast_path_fault_of_json_error json.OutOfMemory = OutOfMemory
fast_path_fault_of_json_error _ = Unsupported
