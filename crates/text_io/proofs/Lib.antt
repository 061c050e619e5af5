mod ByteRows
