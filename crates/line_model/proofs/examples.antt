mod Examples
mod GeneratedTraces
