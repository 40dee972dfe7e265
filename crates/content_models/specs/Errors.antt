-- Why a line was not read, as a schema's error.
use Rattle.content_models.specs.declared.error.SchemaError.{SchemaError}
use Rattle.content_models.specs.declared.error.SchemaError.TheVariants as schema
use Rattle.content_models.specs.declared.error.ReadError.{ReadError}
use Rattle.content_models.specs.declared.error.ReadError.TheVariants as read

abbrev pub as_schema : ReadError → SchemaError
as_schema read.Bad = schema.Bad
as_schema read.Memory = schema.Memory
